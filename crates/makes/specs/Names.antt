-- The words that name the makes.
use Rattle.std.specs.Prelude.{ℕ, ◌≢◌, List, [], ◌∷◌}
use Rattle.makes.specs.declared.make.Make.{Make}
use Rattle.makes.specs.declared.make.Make.TheVariants.{Disk, Block1200, Block4800}
use Rattle.makes.specs.Shapes.{Shape, disk, block1200, block4800}

-- disk, 1200 and 4800, in ASCII
abbrev pub name_of : Make → List ℕ
name_of Disk = 0x64 ∷ 0x69 ∷ 0x73 ∷ 0x6B ∷ []
name_of Block1200 = 0x31 ∷ 0x32 ∷ 0x30 ∷ 0x30 ∷ []
name_of Block4800 = 0x34 ∷ 0x38 ∷ 0x30 ∷ 0x30 ∷ []

-- a word that names none
abbrev pub NoName : List ℕ → Type 0
NoName w = (m : Make) → w ≢ name_of m

abbrev pub shape_of : Make → Shape
shape_of Disk = disk
shape_of Block1200 = block1200
shape_of Block4800 = block4800
