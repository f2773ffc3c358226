use Rattle.std.proofs.Common.{rules, ◌≡◌, [], ◌∷◌, ◌++◌, Ok, subst, sym}
use Rattle.std.specs.Prelude.{codes}
use Rattle.texts.specs.Lines.{words_of}
use Rattle.texts.specs.Shapes.{numbers_after}
use Rattle.slot_table.specs.Tables.{AreApart}
use Rattle.slot_table.specs.SlotPart.{line_in}
use Rattle.slot_table.proofs.FitLines.{still_apart}
use Rattle.slot_table.proofs.slot_lines.SlotLinesLineReader.take.Goals as goal

pub invariant_of-self-2 : goal.invariant_of-self-2
invariant_of-self-2 c =
    let inside : AreApart c.self.inside.lines.items = c.self.invariant in
    let apart : AreApart c.args.self.now.lines = rw (← c.self.view_is) inside in
    let pushed : c.push.new.self.items
    ≡ c.args.self.now.lines ++ c.in-Ok.slot ∷ [] = search rules in
    let line_is : Ok c.in-Ok.slot ≡ line_in c.args.self.now c.args.line.now = c.in-Ok.ensures in
    subst AreApart (sym pushed)
    (still_apart c.args.self.now c.in-Ok.slot
    (numbers_after (codes "slot") 3 (words_of c.args.line.now)) apart line_is)
