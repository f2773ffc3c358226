use Rattle.std.proofs.Common.{◌≡◌, ℕ, ◌+◌, ◌-◌, ◌%◌, ap, ap₂, ◌∙◌, subst}
use Rattle.std.specs.Prelude.{max, min}
use Rattle.adversary_script.specs.Scripts.{Script, IsScript}
use Rattle.run_lines.specs.PlayedTexts.{numbered}
use Rattle.layer_runner.proofs.Played.{faulty_ids}
use Rattle.edge_io.proofs.Writing.{writes_is}
use Rattle.run_lines.proofs.RestBehind.{counted_is, counted_set}
use Rattle.run_lines.proofs.shortened.put_counted.Goals as goal

pub returns : goal.returns
returns g c = λ began plays.
    let r = c.args.runner.now in
    let lines = c.args.lines.now in
    let script = c.script-script.ensures in
    let first = c.shown-first.ensures.first ∙ ap (λ (s : Script). s.first) script in
    let last = c.shown-first.ensures.last ∙ ap (λ (s : Script). s.last) script in
    let from : c.max-from.result ≡ max r.script.first r.at =
    c.max-from.ensures ∙ ap₂ max first c.at.ensures in
    let behind = ap₂ (λ (a b : ℕ). a - b) from c.at-2.ensures in
    writes_is (counted_is (g.L.Lines.wording lines) r began plays
    (g.L.OutputLines.word_at lines) (g.met.L.OutputLines.by_output lines)
    (subst IsScript script c.rounds-rounds.ensures.script) c.args.end c.args.value c.requires.era
    (c.requires.counts began plays) _ _ _ _ _
    (c.new.ensures ∙ ap₂ numbered c.label.ensures.value from)
    (counted_set _ _ _ _ c.nodes.ensures
    (faulty_ids _ _ _ _ _ c.faulty_at.ensures script c.at-3.ensures))
    (c.new-2.ensures.value ∙ ap₂ (λ (m d : ℕ). (c.args.value % m + d) % m)
    c.modulus-modulus.ensures.value behind)
    (c.new-2.ensures.modulus ∙ c.modulus-modulus.ensures.value)
    (c.saturating_sub.ensures ∙ ap₂ (λ (l f : ℕ). l - f)
    (c.min.ensures ∙ ap (λ l. min (l + 1) c.args.end) last) from))
    c.put_counted_lines.ensures
