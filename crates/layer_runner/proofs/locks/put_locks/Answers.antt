use Rattle.std.proofs.Common.{◌≡◌, ℕ, ◌+◌, [], ◌∷◌, length, Option, None, ap, ap₂, ◌∙◌, arith}
use Rattle.std.specs.Prelude.{slice_index_or}
use Rattle.std.specs.List.{concat, flat_map, range_with_len}
use Rattle.edge_io.proofs.Writing.{writes_none, writes_next, writes_is}
use Rattle.adversary_script.specs.Scripts.{Script}
use Rattle.adversary_script.specs.Eras.{first_of_era}
use Rattle.machine_runner.specs.RunTexts.{locked_line, era_front, era_line}
use Rattle.machine_runner.proofs.LockLines.{one_line, many}
use Rattle.layer_runner.proofs.locks.put_locks.Goals as goal

pub returns-then-version-eq1 : goal.returns-then-version-eq1
returns-then-version-eq1 g c =
    let p = g.P.Play.position c.args.play.now in
    let lock : ℕ → Option ℕ = λ j. slice_index_or p.locks j None in
    let version = c.version.ensures ∙ ap (λ (s : Script). s.version) c.script.ensures in
    writes_is (ap (λ (o : Option ℕ). locked_line o) c.lock_of.ensures
    ∙ one_line p.script lock _ version c.if-version-eq1.true) c.put_locked.ensures

pub loop-era-init : goal.loop-era-init
loop-era-init g c = writes_none

pub loop-era-preserved : goal.loop-era-preserved
loop-era-preserved g c =
    let p = g.P.Play.position c.args.play.now in
    let first = c.era_start-first.ensures
    ∙ ap (λ (s : Script). first_of_era s c.loop-era.era) c.script-in-loop-era.ensures in
    writes_next (era_line p.script (λ j. slice_index_or p.locks j None)) 0
    c.loop-era.era c.loop-era.era c.loop-era.invariant
    (writes_is (ap₂ (λ (f : ℕ) (o : Option ℕ). concat (era_front f ∷ locked_line o ∷ [])) first
    c.lock_of-in-loop-era.ensures) c.put_era.ensures) (omega arith)

pub returns : goal.returns
returns g c =
    let p = g.P.Play.position c.args.play.now in
    let lock : ℕ → Option ℕ = λ j. slice_index_or p.locks j None in
    let version = c.version.ensures ∙ ap (λ (s : Script). s.version) c.script.ensures in
    let size = c.eras-era-end.ensures.value
    ∙ ap (λ (s : Script). length s.eras + 1) c.script-2.ensures in
    let end : c.loop-era.era ≡ length p.script.eras + 1 =
    omega (arith, c.loop-era.auto.era-end, c.loop-era-test.false, size) in
    writes_is (ap (λ (n : ℕ). flat_map (era_line p.script lock) (range_with_len 0 n)) end
    ∙ many p.script lock _ version c.if-version-eq1.false) c.loop-era.invariant
