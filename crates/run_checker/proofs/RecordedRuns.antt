-- What is recorded of a script states what is played of it.
use Rattle.std.proofs.Common.{◌≡◌, ℕ, zero, suc, ◌+◌, ◌≤◌, List, ◌∷◌, map, get_or, refl}
use Rattle.std.proofs.Common.{ap, subst, ◌∙◌, arith}
use Rattle.std.specs.List.{range_with_len}
use Rattle.std.proofs.lemmas.List.{length-map}
use Rattle.std.proofs.lemmas.List.FromFn.{length-range_with_len, get_or-map-range_with_len}
use Rattle.construction.specs.Plans.{Plan}
use Rattle.adversary_script.specs.Scripts.{Script}
use Rattle.round_runner.specs.Laws.{IsReadFor}
use Rattle.run_checker.specs.Certificates.{Turn}
use Rattle.run_checker.specs.Stated.{Snapshot, told_by, told_of, stand_behind, first_stand}
use Rattle.run_checker.specs.Stated.{stands_behind, stated}
use Rattle.run_checker.specs.Recorded.{stand_at, turn_at, certificate_of, RecordsAreOfRuns}
use Rattle.run_checker.proofs.RecordedTellings.{Agrees}
use Rattle.run_checker.proofs.RecordedTrue.{agree_first, agree_next, told_is}

module _ (plan : Plan) (s : Script) (is : IsReadFor plan s) where
  abbrev turns : (t k : ℕ) → List Turn
  turns t k = map (turn_at plan s) (range_with_len t k)

  -- so many rounds after a stated configuration that agrees with the played one
  agrees_on : (k t i : ℕ) (x d : Snapshot) → Agrees plan x (stand_at plan s t) → i ≤ k
      → Agrees plan (get_or (x ∷ stands_behind plan x (turns t k)) i d) (stand_at plan s (t + i))
  agrees_on k t zero x d agree le =
      let same : t ≡ t + 0 = omega arith in
      subst (λ u. Agrees plan x (stand_at plan s u)) same agree
  agrees_on zero t (suc i) x d agree le = absurd (omega arith)
  agrees_on (suc k) t (suc i) x d agree le =
      let next : Snapshot = stand_behind plan x (turn_at plan s t) in
      let same : t + 1 + i ≡ t + suc i = omega arith in
      subst (λ u. Agrees plan (get_or (next ∷ stands_behind plan next (turns (t + 1) k)) i d)
      (stand_at plan s u)) same
      (agrees_on k (t + 1) i next d (agree_next plan s is t x agree) (omega arith))

  agrees_at : (t : ℕ) (d : Snapshot) → t ≤ s.rounds
      → Agrees plan (get_or (stated (certificate_of plan s)) t d) (stand_at plan s t)
  agrees_at t d le =
      let same : 0 + t ≡ t = omega arith in
      subst (λ u. Agrees plan (get_or (stated (certificate_of plan s)) t d) (stand_at plan s u))
      same
      (agrees_on s.rounds 0 t (first_stand (certificate_of plan s)) d (agree_first plan s is) le)

pub records_are_of_runs : RecordsAreOfRuns
records_are_of_runs plan s is = record {
  of_plan = refl;
  rounds = length-map (range_with_len 0 s.rounds) (turn_at plan s)
      ∙ length-range_with_len 0 s.rounds;
  faulty = λ t d le. (agrees_at plan s is t d le).faulty;
  states = λ t v d le lt correct. (agrees_at plan s is t d le).same v lt correct;
  told = λ t u v d lt liar vlt correct.
      ap (λ (turn : Turn). told_of plan (map (told_by plan) turn.lies) u v)
      (get_or-map-range_with_len (turn_at plan s) 0 s.rounds t t d lt (omega arith))
      ∙ told_is plan s is t u v vlt liar correct;
}
