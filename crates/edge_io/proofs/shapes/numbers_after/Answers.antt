use Rattle.std.proofs.Common.{◌≡◌, ◌<◌, ◌≤◌, ℕ, ◌-◌, true, take, length, List, ◌∷◌, [], Some, sym}
use Rattle.std.proofs.Common.{ap, ◌∙◌, arith, refl}
use Rattle.std.proofs.lemmas.Bool.{not-false}
use Rattle.std.proofs.lemmas.List.{take_more_set, take_all, length-set}
use Rattle.std.specs.Str.{bytes_eq}
use Rattle.texts.specs.Shapes.{numbers_of, numbers_after}
use Rattle.texts.specs.Lines.{words_of}
use Rattle.texts.proofs.Shapes.{with_front, numbers_more, numbers_done}
use Rattle.edge_io.proofs.shapes.numbers_after.Goals as goal

pub loop-i-preserved : goal.loop-i-preserved
loop-i-preserved g c =
    let lt : c.loop-i.i < length c.loop-i.numbers = omega arith in
    let words_are = c.in_ok-next-2.ensures.steps in
    let one = numbers_more (take c.loop-i.i c.loop-i.numbers) g.row.N c.loop-i.i _
    c.next-in-loop-i.new.self _ c.loop-i-test.true (sym c.in_ok-numbers.ensures) in
    record {
      size = length-set c.loop-i.numbers c.loop-i.i c.in_ok-numbers.field-0
          ∙ c.loop-i.invariant.size;
      so_far = c.loop-i.invariant.so_far
          ∙ rw words_are (one ∙ rw (take_more_set c.loop-i.numbers c.loop-i.i
          c.in_ok-numbers.field-0 lt) refl);
    }

all_read : (numbers : List ℕ) (n i : ℕ) (key word : List ℕ) (line : List (List ℕ))
    (words rest : List (List ℕ)) → length numbers ≡ n → n ≤ i → line ≡ word ∷ words
    → bytes_eq word key ≡ true → rest ≡ []
    → numbers_of n words ≡ with_front (take i numbers) (numbers_of (n - i) rest)
    → numbers_after key n line ≡ Some numbers
all_read numbers n i key word line words rest size le parts same none so_far =
    rw (parts, same) (so_far ∙ rw none (numbers_done (take i numbers) n i le
    ∙ ap Some (take_all i numbers (omega arith))))

pub returns-in-None : goal.returns-in-None
returns-in-None g c = sym
    (all_read c.loop-i.numbers g.row.N c.loop-i.i c.args.key.now _ (words_of c.args.line.now)
    c.next.new.self c.loop-i.words c.loop-i.invariant.size c.loop-i-test.false
    (sym c.new-words.ensures ∙ c.in_ok-next.ensures.steps) (not-false _ (sym c.ne.ensures
    ∙ c.if-ne.false)) c.in-None.ensures.steps.0 c.loop-i.invariant.so_far)
