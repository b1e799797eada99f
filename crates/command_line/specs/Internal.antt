-- The argument that an entry of a table stands for. Private functions, proofs and laws cite it; no clause
-- of a public function does.
use Rattle.std.specs.Prelude.{ℕ, List}
use Rattle.command_line.specs.Commands.{Argument, one, some, any, flag, flag_or_letter, letter, text, number, byte_order}
use Rattle.command_line.specs.declared.commands.Kind.{Kind}
use Rattle.command_line.specs.declared.commands.Kind.TheVariants as kind

abbrev pub argument_of : List ℕ → Kind → Argument
argument_of name kind.File = one name
argument_of name kind.Files = some name
argument_of name kind.Forms = any name
argument_of name kind.Flag = flag name
argument_of name (kind.ShortFlag c) = flag_or_letter name c
argument_of name (kind.Letter c) = letter name c
argument_of name kind.Output = text name 111
argument_of name (kind.Text c value) = text name c
argument_of name kind.Number = number name
argument_of name kind.ByteOrder = byte_order name
