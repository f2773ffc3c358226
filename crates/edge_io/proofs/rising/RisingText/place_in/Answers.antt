use Rattle.std.proofs.Common.{◌++◌, length, take, refl, ap, ◌∙◌, arith}
use Rattle.edge_io.specs.Rising.{Labelled, labelled_text}
use Rattle.edge_io.proofs.LastDigits.{rising_length, rising_placed}
use Rattle.edge_io.proofs.rising.RisingText.place_in.Goals as goal

pub returns-clause-end : goal.returns-clause-end
returns-clause-end c =
    let t = c.self.inside in
    omega (
      arith,
      rising_length t.bytes t.label t.last t.digit t.value c.self.invariant,
      ap (λ (n : Labelled). length (labelled_text n)) c.self.view_is,
    )

pub returns-clause-text : goal.returns-clause-text
returns-clause-text c =
    let t = c.self.inside in
    rising_placed t.bytes t.label t.last t.digit t.value c.self.invariant c.args.at
    c.args.buffer.now
    c.place.new.buffer _ _ (omega (arith, c.requires)) c.place.ensures refl
    ∙ ap (λ (n : Labelled). take c.args.at c.args.buffer.now ++ labelled_text n) c.self.view_is
