use Rattle.std.proofs.Common.{◌≡◌, ℕ, ◌+◌, ◌-◌, ◌<◌, ◌^◌, List, [], ◌∷◌, ◌++◌, length, take, drop}
use Rattle.std.proofs.Common.{refl, sym, ap, ◌∙◌, subst, arith}
use Rattle.std.specs.List.{range_with_len}
use Rattle.std.proofs.Math.Seq.{take-append_seam}
use Rattle.std.proofs.lemmas.List.FromFn.{length-range_with_len}
use Rattle.adversary_script.specs.Scripts.{Script}
use Rattle.sweep.specs.Keys.{keyed}
use Rattle.sweep.specs.Sweeps.{Locks, Swept}
use Rattle.sweep.specs.Tallies.{EraRuns, AreTallied, HasRoom}
use Rattle.sweep.specs.Progress.{SaidSoFar}
use Rattle.sweep.proofs.Said.{said_begin, says_nothing}
use Rattle.texts.proofs.Ranges.{range_more}
use Rattle.sweep.proofs.Tallied.{room_unkeyed}
use Rattle.sweep.proofs.tallying.count_runs.Goals as goal

pub loop-seed-init : goal.loop-seed-init
loop-seed-init g c =
    let begun = g.R.Sweepable.swept c.args.runner.now in
    let items = c.in_ok-tally.tally.items in
    let none : 0 ≡ c.args.first - c.args.first = omega arith in
    record {
      locks = refl;
      script = refl;
      room = subst (λ (s : Script). HasRoom s items) c.script.ensures c.in_ok-tally.ensures.room;
      counted = subst (λ (n : ℕ). AreTallied begun.locks begun.script
          (range_with_len c.args.first n) items) none
          (subst (λ (s : Script). AreTallied begun.locks s [] items) c.script.ensures
          (c.in_ok-tally.ensures.none begun.locks));
      said = subst (λ (n : ℕ). SaidSoFar g.E.Sink.told c.args.count n c.args.progress.now
          c.begin.new.self) none (said_begin g.E.Sink.told c.args.count c.args.progress.now
          c.begin.new.self c.begin.ensures);
    }

pub loop-seed-preserved : goal.loop-seed-preserved
loop-seed-preserved g c =
    let begun = g.R.Sweepable.swept c.args.runner.now in
    let swept = g.R.Sweepable.swept c.play.new.self in
    let script = begun.script in
    let seed = c.loop-seed.seed in
    let first = c.args.first in
    let held = c.loop-seed.invariant in
    let items = c.loop-seed.tally.items in
    let now = c.note.new.tally in
    let seeds = range_with_len first (seed - first) in
    let same : swept.script ≡ keyed script seed =
    ap (λ (s : Swept). s.script) c.play.ensures.swept
    ∙ ap (λ (s : Script). keyed s seed) held.script in
    let locks : swept.locks ≡ begun.locks =
    ap (λ (s : Swept). s.locks) c.play.ensures.swept ∙ held.locks in
    let room : HasRoom script now = room_unkeyed script seed now
    (subst (λ (s : Script). HasRoom s now) same c.note.ensures.room) in
    let rest = drop (length now) items in
    let long : c.loop-seed.tally.len ≡ length now =
    omega (
      arith,
      c.deref_mut.ensures.len,
      room.size,
      held.room.size,
      ap (λ (xs : List EraRuns). length xs) c.deref_mut.ensures.value,
    ) in
    let back : take c.loop-seed.tally.len (now ++ rest) ≡ now =
    ap (λ (n : ℕ). take n (now ++ rest)) long ∙ take-append_seam now rest in
    let size = length-range_with_len first (seed - first) in
    let few : length seeds + 1 < 2 ^ 64 =
    omega (arith, size, c.loop-seed-test.true, c.requires) in
    let before : AreTallied swept.locks script seeds c.deref_mut.result.now =
    subst (λ (xs : List EraRuns). AreTallied swept.locks script seeds xs)
    (sym c.deref_mut.ensures.value)
    (subst (λ (p : Locks). AreTallied p script seeds items) (sym locks) held.counted) in
    let counted : AreTallied begun.locks script (seeds ++ seed ∷ []) now =
    subst (λ (p : Locks). AreTallied p script (seeds ++ seed ∷ []) now) locks
    (c.note.ensures.runs script seeds same few before) in
    let one_more : seed - first + 1 ≡ seed + 1 - first = omega (arith, c.loop-seed.auto.seed) in
    let more : seeds ++ seed ∷ [] ≡ range_with_len first (seed + 1 - first) =
    sym (range_more first (seed - first) seed (omega (arith, c.loop-seed.auto.seed)))
    ∙ ap (λ (n : ℕ). range_with_len first n) (omega (arith, c.loop-seed.auto.seed)) in
    record {
      locks = locks;
      script = same ∙ ap (λ (key : List ℕ). let s : Script = record script { key = key } in s)
          (sym (ap (λ (s : Script). s.key) same));
      room = subst (λ (xs : List EraRuns). HasRoom script xs) (sym back) room;
      counted = subst (λ (xs : List EraRuns). AreTallied begun.locks script
          (range_with_len first (seed + 1 - first)) xs) (sym back)
          (subst (λ (s : List ℕ). AreTallied begun.locks script s now) more counted);
      said = subst (λ (n : ℕ). SaidSoFar g.E.Sink.told c.args.count n c.args.progress.now
          c.say.new.self) one_more
          (c.say.ensures c.args.progress.now (seed - first) (omega arith) held.said);
    }

pub returns-clause-progress : goal.returns-clause-progress
returns-clause-progress g c =
    let all : c.loop-seed.seed - c.args.first ≡ c.args.count =
    omega (arith, c.loop-seed.auto.seed, c.loop-seed-test.false) in
    c.end.ensures c.args.progress.now c.args.count
    (subst (λ (n : ℕ). SaidSoFar g.E.Sink.told c.args.count n c.args.progress.now
    c.loop-seed.progress) all c.loop-seed.invariant.said)

pub returns-in_err-tally-clause-progress : goal.returns-in_err-tally-clause-progress
returns-in_err-tally-clause-progress g c =
    says_nothing c.args.progress.now.name c.args.progress.now.is_on c.args.count
    (g.E.Sink.told c.args.progress.now.sink)
