mod Prelude
mod Arguments
mod Texts
