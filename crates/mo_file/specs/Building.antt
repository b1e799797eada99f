-- Which messages are built to a file, and why others aren't (manual, "The Format of GNU MO Files").
use Rattle.std.specs.Prelude.{◌^◌, ◌<◌, List, length, ◌≤◌}
use Rattle.mo_file.specs.declared.byte_order.Order.{Order}
use Rattle.mo_file.specs.Pairs.{Message}
use Rattle.mo_file.specs.declared.building.BuildError.{BuildError}
use Rattle.mo_file.specs.declared.building.BuildError.TheVariants.{TooLarge, NotSorted, OutOfMemory}
use Rattle.mo_file.specs.Key.{keys, AreRising}
use Rattle.mo_file.specs.Writing.{layout}

-- 32 bits reach the end of the layout
abbrev pub LayoutFits : Order → List Message → Type 0
LayoutFits order messages = length (layout order messages) < 2 ^ 32

-- the first reason for which these messages are refused; memory is asked for last
abbrev pub IsBuildFault : Order → List Message → BuildError → Type 0
IsBuildFault order messages TooLarge = 2 ^ 32 ≤ length (layout order messages)
IsBuildFault order messages NotSorted = LayoutFits order messages × ¬ AreRising (keys messages)
IsBuildFault order messages OutOfMemory = LayoutFits order messages × AreRising (keys messages)
