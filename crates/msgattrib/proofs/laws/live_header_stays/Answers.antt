use Rattle.msgattrib.proofs.OptionLaws.{live_header_forms, live_header_kept, live_header_live}
use Rattle.msgattrib.proofs.laws.live_header_stays.Goals as goal

pub returns : goal.returns
returns c = record { kept = live_header_kept; live = live_header_live; forms = live_header_forms }
