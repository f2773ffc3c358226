use Rattle.std.proofs.Common.{◌≡◌, ℕ, Bool, true, false, cond, List, sym, ap, ◌∙◌}
use Rattle.std.specs.Prelude.{codes}
use Rattle.sync_types.specs.FaultSets.{is_in}
use Rattle.edge_io.proofs.Writing.{writes_is}
use Rattle.construction.specs.Steps.{state_of}
use Rattle.adversary_script.specs.Eras.{faulty_at}
use Rattle.machine_runner.specs.Played.{played_at}
use Rattle.machine_runner.specs.ShownTexts.{word_at}
use Rattle.machine_runner.proofs.words.Shown.put_word.Goals as goal

pub returns-then-is_faulty : goal.returns-then-is_faulty
returns-then-is_faulty g c =
    let r = c.args.self.now.runner.now in
    let t : ℕ = c.args.self.now.t in
    let word = word_at (g.L.ShownLines.front c.args.lines.now)
    (g.L.ShownLines.word c.args.lines.now)
    (g.M.Machine.machine r.machine) r.script t c.args.v in
    let bad : true ≡ is_in (faulty_at r.script t) c.args.v =
    sym c.if-is_faulty.true ∙ c.is_faulty.ensures
    ∙ ap (λ (faulty : List ℕ). is_in faulty c.args.v) (sym c.args.self.now.shows.same) in
    writes_is (ap (λ (b : Bool). cond b (codes " *") word) bad) c.text.ensures

pub returns-then-at-self : goal.returns-then-at-self
returns-then-at-self g c =
    let r = c.args.self.now.runner.now in
    let t : ℕ = c.args.self.now.t in
    let machine = g.M.Machine.machine r.machine in
    let front = g.L.ShownLines.front c.args.lines.now in
    let word = g.L.ShownLines.word c.args.lines.now in
    let ok : false ≡ is_in (faulty_at r.script t) c.args.v =
    sym c.if-is_faulty.false ∙ c.is_faulty.ensures
    ∙ ap (λ (faulty : List ℕ). is_in faulty c.args.v) (sym c.args.self.now.shows.same) in
    let here = sym c.at.ensures ∙ c.if-at-self.true in
    let shown = c.output.ensures.value
    ∙ ap (λ t. machine.shows c.args.v (state_of (played_at machine r.script t) c.args.v)) here in
    writes_is
    (ap (λ (o : ℕ). word o c.args.v) shown
    ∙ ap (λ (b : Bool). cond b (codes " *") (word_at front word machine r.script t c.args.v)) ok)
    c.put_word.ensures

pub returns-else-at-self : goal.returns-else-at-self
returns-else-at-self g c =
    let r = c.args.self.now.runner.now in
    let t : ℕ = c.args.self.now.t in
    let machine = g.M.Machine.machine r.machine in
    let front = g.L.ShownLines.front c.args.lines.now in
    let word = g.L.ShownLines.word c.args.lines.now in
    let ok : false ≡ is_in (faulty_at r.script t) c.args.v =
    sym c.if-is_faulty.false ∙ c.is_faulty.ensures
    ∙ ap (λ (faulty : List ℕ). is_in faulty c.args.v) (sym c.args.self.now.shows.same) in
    let shown = c.args.self.now.shows.shows (λ here. c.if-at-self.false (c.at.ensures ∙ here))
    c.args.v c.requires (sym ok) in
    writes_is
    (ap (λ (o : ℕ). word o c.args.v) shown
    ∙ ap (λ (b : Bool). cond b (codes " *") (word_at front word machine r.script t c.args.v)) ok)
    c.put_word-else-at-self.ensures
