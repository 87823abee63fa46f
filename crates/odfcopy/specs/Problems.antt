-- What a conversion in memory gives, and why it can fail.
use Rattle.std.specs.Prelude.{◌≡◌, ℕ, List, length, replicate, Err}
use Rattle.carrier.specs.Cells.{Cell, first_damage}
use Rattle.makes.specs.Shapes.{Shape}
use Rattle.convert.specs.Conversion.{Refilled, Smallest}
use Rattle.odfcopy.specs.declared.problem.Problem.{Problem}
use Rattle.odfcopy.specs.declared.problem.Problem.TheVariants.{Words, UnknownMake, NotRead, NotWritten, NoMemory, Refused}

-- the cells us as a new memory of make g: the smallest that has them all, zero where it is neither cell nor fixed byte
pub record Gives (g : Shape) (us : List Cell) (memory : List ℕ) (packets : ℕ) : Type 0 where
  pub smallest : Smallest g (length us) (length memory)
  pub filled : Refilled g us (replicate (length memory) 0) memory
  pub counted : packets ≡ length us

-- a conversion fails for its lowest damaged cell, or for want of memory
abbrev pub Fails : List Cell → Problem → Type 0
Fails us Words = ⊥
Fails us (UnknownMake w) = ⊥
Fails us (NotRead w) = ⊥
Fails us (NotWritten w) = ⊥
Fails us NoMemory = Unit {0}
Fails us (Refused e) = first_damage 0 us ≡ Err e
