-- What a look-up in messages in order answers ("The Format of GNU MO Files").
use Rattle.std.specs.Prelude.{◌≡◌, List}
use Rattle.mo_file.specs.Prelude.{Message}
use Rattle.mo_lookup.specs.Prelude.{forms_found, header_text, Query}

-- each query finds the forms that the other messages have for it, or none; and so does that for the header
pub record AnswersAlike (messages sorted : List Message) : Type 0 where
  pub forms : (query : Query) → forms_found sorted query ≡ forms_found messages query
  pub header : header_text sorted ≡ header_text messages
