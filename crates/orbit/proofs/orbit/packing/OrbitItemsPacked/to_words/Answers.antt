use Rattle.std.proofs.Common.{sym, arith, w64, SFits, rules}
use Rattle.std.proofs.lemmas.Int.{to_z-of_z}
use Rattle.orbit.specs.OrbitWords.{orbit_words}
use Rattle.orbit.specs.OrbitLaws.{wide}
use Rattle.orbit.specs.OrbitKindLaws.{timed}
use Rattle.orbit.proofs.orbit.packing.OrbitItemsPacked.to_words.Goals as goal

pub word67-requires : goal.word67-requires
word67-requires c = (wide c.items-items.result c.items-items.ensures.lawful).six

pub word89-requires : goal.word89-requires
word89-requires c = let w = wide c.items-items.result c.items-items.ensures.lawful in record { fill = w.eight; small = w.delayed }

pub overflow_cast-result : goal.overflow_cast-result
overflow_cast-result c = let t = timed c.items-items.result c.items-items.ensures.lawful in omega arith

pub word2-requires : goal.word2-requires
word2-requires c = (wide c.items-items.result c.items-items.ensures.lawful).two

pub word5-requires : goal.word5-requires
word5-requires c = (wide c.items-items.result c.items-items.ensures.lawful).five

pub returns : goal.returns
unfolding orbit_words
returns c =
    let x = c.items-items.result in
    let f : SFits w64 x.whole = search rules in
    let g : SFits w64 x.part = search rules in
    let w = wide x c.items-items.ensures.lawful in
    let a = (simp to_z-of_z at c.word_of.ensures.word) w.wholly in
    let b = (simp to_z-of_z at c.word_of-2.ensures.word) w.partly in
    rw (sym c.items-items.ensures.same) (simp (c.word2.ensures.is, a, b, c.word5.ensures.is, c.halves.ensures, c.halves-2.ensures, c.word67.ensures, c.word89.ensures))
