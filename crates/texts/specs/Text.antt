-- Bytes written as a text, so that an example shows its line as it is printed.
-- Assumes nothing.
use Rattle.std.specs.Prelude.{ℕ, List, [] as none, ◌∷◌ as ◌and◌}
use Prim.Native.Char.{code}
use Prim.Native.String.{String, [], ◌∷◌}

abbrev pub bytes_of : String → List ℕ
bytes_of [] = none
bytes_of (c ∷ s) = code c and bytes_of s
