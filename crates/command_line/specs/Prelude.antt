-- What contracts and proofs cite of the definitions of this crate. Declares nothing.
pub use Rattle.command_line.specs.Commands.{Argument, IsRuleOf, arguments_of, AddsArguments, IsToolCommand, IsToolShape, OffersTools, offered, offered_tools, top_of}
pub use Rattle.command_line.specs.Usage.{spelled_out, is_file_tip, is_left_out, reworded, reworded_line, single_spaced, spaced_line}
pub use Rattle.command_line.specs.Tips.{before_quote, gnu_checks, gnu_options, is_among, manual_of, option_tip, own_tip, takes_files, tip_on, tool_tip, unknown_option, unknown_tool, word_after}
