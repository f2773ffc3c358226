-- An explanation that is given passes exactly if it explains.
use Rattle.std.proofs.Common.{◌≡◌, ℕ, suc, ◌+◌, ◌-◌, ◌*◌, ◌/◌, ◌%◌, ◌<◌, ◌≤◌, Bool, true, false}
use Rattle.std.proofs.Common.{Option, Some, None, refl, sym, ap, ◌∙◌, subst, arith}
use Rattle.std.specs.Prelude.{nat_eq, nat_le, ◌&&◌}
use Rattle.std.proofs.Math.Nat.{mod-add-mod, mod-eq_of_lt, mod-lt, add-mod_right}
use Rattle.std.proofs.lemmas.Bool.{false≢true, and_parts, and_from, eqb-true, eq-eqb, leb-true}
use Rattle.std.proofs.lemmas.Bool.{le-leb}
use Rattle.construction.specs.Plans.{Plan}
use Rattle.adversary_script.specs.Scripts.{Script}
use Rattle.run_explanations.specs.declared.explanations.Explanation.{Explanation}
use Rattle.run_explanations.specs.declared.searching.LeaderStreak.{LeaderStreak}
use Rattle.run_explanations.specs.declared.seeing.Observation.{Observation}
use Rattle.run_explanations.specs.declared.tops.Top.{Top}
use Rattle.run_explanations.specs.Checking.{IsWithinWindow, is_of, is_of_seen}
use Rattle.run_explanations.specs.Explanations.{IsExplanation, era_begin, is_faulty, seen_at}
use Rattle.run_explanations.specs.Playing.{FitsEra}
use Rattle.run_explanations.specs.Searching.{begins_phase, stretch_before}
use Rattle.run_explanations.specs.Tops.{IsTop, top_of}
use Rattle.run_explanations.proofs.Bridge.{era_is_seen, seen_is_era}
use Rattle.run_explanations.proofs.Found.{Explained, third, passes, passed, last_window}
use Rattle.run_explanations.proofs.Taking.{part_small}
use Rattle.run_explanations.proofs.Windows.{IsWindow, Stands, stands, IsLong, window_long}

-- what explains fits
pub explained_fits : (beat : ℕ) (faulty : ℕ → Bool) (last since : ℕ) (seen : ℕ → Option Observation)
    (e : Explanation)
    → Explained beat faulty last since seen e.window e.leader e.phase e.king
    → IsWithinWindow beat since last e
explained_fits beat faulty last since seen e why = record {
  from = why.since;
  window = why.within;
  begins = why.begins;
  ends = why.ends;
}

module _ (beat : ℕ) (six : 6 ≤ beat) (faulty : ℕ → Bool) (last since : ℕ)
    (seen : ℕ → Option Observation)
    (small : (c : ℕ) (s : Observation) → seen c ≡ Some s → s.part < beat) (e : Explanation) where
  abbrev Why : Type 0
  Why = Explained beat faulty last since seen e.window e.leader e.phase e.king

  passing : (c count : ℕ) (o : Option Observation) → c + 1 ≡ e.window + beat
      → Stands beat seen e.window (suc c) count o → IsWithinWindow beat since last e
      → is_of_seen beat faulty last count o e ≡ true → Why
  passing c count None at h fits is = absurd (false≢true is)
  passing c count (Some s) at h fits is =
      let start : ℕ = (s.part + 1) % beat in
      let x : ℕ = e.phase - e.window in
      let u = and_parts (nat_le beat count && nat_eq s.leader e.leader
      && begins_phase beat faulty last e.window start x) (nat_eq ((start + x) % beat / 3) e.king)
      is in
      let v = and_parts (nat_le beat count && nat_eq s.leader e.leader)
      (begins_phase beat faulty last e.window start x) u.0 in
      let w = and_parts (nat_le beat count) (nat_eq s.leader e.leader) v.0 in
      let king : (start + x) % beat / 3 ≡ e.king = eqb-true _ _ u.1 in
      let leader : s.leader ≡ e.leader = eqb-true _ _ w.1 in
      let ok = passed beat six faulty last e.window seen small e.window start x v.1 in
      let room = ok.2 in
      let begins = fits.begins in
      let here : c + 1 - beat ≡ e.window = omega (arith, at) in
      record {
        since = fits.from;
        p = start;
        small_p = mod-lt (s.part + 1) (omega (arith, six));
        window = subst (λ (b : ℕ). IsWindow beat seen e.window beat b start) leader
            (subst (λ (t : ℕ). IsWindow beat seen t beat s.leader start) here
            (last_window beat six faulty last e.window seen small c count s h (leb-true _ _ w.0)));
        within = fits.window;
        begins = fits.begins;
        ends = fits.ends;
        by_last = omega (arith, room, begins);
        phase = ok.0 ∙ ap (λ (k : ℕ). 3 * k) king;
        king = subst (λ (k : ℕ). faulty k ≡ false) king ok.1;
      }

  module _ (why : Why) where
    long : IsLong beat seen e.window (beat - 1) e.leader ((why.p + (beat - 1)) % beat)
        (stretch_before beat e.window seen (e.window + beat))
    long =
        let whole : suc (beat - 1) ≡ beat = omega (arith, six) in
        let at : suc (e.window + (beat - 1)) ≡ e.window + beat = omega (arith, six) in
        subst
        (λ (c : ℕ). IsLong beat seen e.window (beat - 1) e.leader ((why.p + (beat - 1)) % beat)
        (stretch_before beat e.window seen c)) at
        (window_long beat seen e.window e.window e.leader why.p (omega arith) (beat - 1)
        (subst (λ (m : ℕ). IsWindow beat seen e.window m e.leader why.p) (sym whole) why.window))

    start_is : ((why.p + (beat - 1)) % beat + 1) % beat ≡ why.p
    start_is =
        let on : why.p + (beat - 1) + 1 ≡ why.p + beat = omega (arith, six) in
        mod-add-mod (why.p + (beat - 1)) beat 1
        ∙ (ap (λ (q : ℕ). q % beat) on ∙ (add-mod_right why.p beat ∙ mod-eq_of_lt why.small_p))

    passes_all : (count : ℕ) → beat ≤ count
        → is_of_seen beat faulty last count
        (Some (record { leader = e.leader; part = (why.p + (beat - 1)) % beat })) e ≡ true
    passes_all count many =
        let x : ℕ = e.phase - e.window in
        let begins = why.begins in
        let by = why.by_last in
        let test : ℕ → Bool = λ start. nat_le beat count && nat_eq e.leader e.leader
        && begins_phase beat faulty last e.window start x
        && nat_eq ((start + x) % beat / 3) e.king in
        ap test start_is
        ∙ and_from (nat_le beat count && nat_eq e.leader e.leader
        && begins_phase beat faulty last e.window why.p x) (nat_eq ((why.p + x) % beat / 3) e.king)
        (and_from (nat_le beat count && nat_eq e.leader e.leader)
        (begins_phase beat faulty last e.window why.p x)
        (and_from (nat_le beat count) (nat_eq e.leader e.leader) (le-leb _ _ many)
        (eq-eqb _ _ refl))
        (passes beat six faulty last e.window seen small e.window why.p x e.king why.phase why.king
        (omega (arith, begins, by))))
        (eq-eqb _ _
        (third beat six faulty last e.window seen small ((why.p + x) % beat) e.king
        why.phase).1)

    passes_is : is_of beat faulty last (stretch_before beat e.window seen (e.window + beat)) e
        ≡ true
    passes_is =
        let s : LeaderStreak = stretch_before beat e.window seen (e.window + beat) in
        let more = long.long in
        ap (λ (o : Option Observation). is_of_seen beat faulty last s.count o e) long.seen
        ∙ passes_all s.count (omega (arith, more, six))

  -- it passes exactly if it explains
  pub tested : IsWithinWindow beat since last e
      →
      (is_of beat faulty last (stretch_before beat e.window seen (e.window + beat)) e ≡ true
      → Why)
      ×
      (Why
      → is_of beat faulty last (stretch_before beat e.window seen (e.window + beat)) e ≡ true)
  tested fits =
      let c : ℕ = e.window + beat - 1 in
      let at : suc c ≡ e.window + beat = omega (arith, six) in (
        λ is. passing c (stretch_before beat e.window seen (e.window + beat)).count
            (stretch_before beat e.window seen (e.window + beat)).seen (omega (arith, six))
            (subst (λ (d : ℕ). Stands beat seen e.window d
            (stretch_before beat e.window seen (e.window + beat)).count
            (stretch_before beat e.window seen (e.window + beat)).seen) (sym at)
            (stands beat seen e.window small (e.window + beat))) fits is,
        λ why. passes_is why,
      )

-- ---- of the last era of a script

module _ (plan : Plan) (script : Script) (is : IsTop (top_of plan)) (e : Explanation) where
  pub check_passes : (result : Bool)
      → IsWithinWindow (top_of plan).beat (era_begin script) script.rounds e
      → result ≡ is_of (top_of plan).beat (is_faulty script) script.rounds
      (stretch_before (top_of plan).beat e.window (seen_at plan script)
      (e.window + (top_of plan).beat))
      e
      → (result ≡ true → IsExplanation plan script e)
      × (IsExplanation plan script e → result ≡ true)
  check_passes result fits same =
      let t = tested (top_of plan).beat is.beat (is_faulty script) script.rounds (era_begin script)
      (seen_at plan script) (part_small plan script (top_of plan) is refl) e fits in (
        λ yes. seen_is_era plan script is e.window e.leader e.phase e.king (t.0 (sym same ∙ yes)),
        λ why. same ∙ t.1 (era_is_seen plan script is e.window e.leader e.phase e.king why),
      )

  pub check_fits : IsExplanation plan script e
      → IsWithinWindow (top_of plan).beat (era_begin script) script.rounds e
  check_fits why =
      explained_fits (top_of plan).beat (is_faulty script) script.rounds (era_begin script)
      (seen_at plan script) e (era_is_seen plan script is e.window e.leader e.phase e.king why)

-- what is computed is that test
pub result_is : (plan : Plan) (read script : Script) (top : Top) (played : Plan) (s : LeaderStreak)
    (e : Explanation) (result : Bool) → top ≡ top_of plan → played ≡ plan → read ≡ script
    → s ≡ stretch_before top.beat e.window (seen_at played script) (e.window + top.beat)
    → result ≡ is_of top.beat (is_faulty read) read.rounds s e
    → result ≡ is_of (top_of plan).beat (is_faulty script) script.rounds
    (stretch_before (top_of plan).beat e.window (seen_at plan script)
    (e.window + (top_of plan).beat))
    e
result_is plan read script top played s e result top_is plan_is same stretch is =
    is ∙ (ap (λ (r : Script). is_of top.beat (is_faulty r) r.rounds s e) same
    ∙ (ap (λ (s : LeaderStreak). is_of top.beat (is_faulty script) script.rounds s e)
    (stretch
    ∙ ap
    (λ (p : Plan). stretch_before top.beat e.window (seen_at p script) (e.window + top.beat))
    plan_is)
    ∙ ap
    (λ (t : Top). is_of t.beat (is_faulty script) script.rounds
    (stretch_before t.beat e.window (seen_at plan script) (e.window + t.beat)) e)
    top_is))

-- what fits by these numbers fits into the last era
module _ (plan : Plan) (script : Script) (top : Top) (from rounds : ℕ) (e : Explanation)
    (top_is : top ≡ top_of plan) (begin : from ≡ era_begin script) (last : rounds ≡ script.rounds)
  where
    pub fits_era : IsWithinWindow top.beat from rounds e → FitsEra plan script e
    fits_era fits =
        subst (λ (t : Top). IsWithinWindow t.beat (era_begin script) script.rounds e) top_is
        (subst (λ (from : ℕ). IsWithinWindow top.beat from script.rounds e) begin
        (subst (λ (r : ℕ). IsWithinWindow top.beat from r e) last fits))

    pub era_fits : FitsEra plan script e → IsWithinWindow top.beat from rounds e
    era_fits fits =
        subst (λ (r : ℕ). IsWithinWindow top.beat from r e) (sym last)
        (subst (λ (from : ℕ). IsWithinWindow top.beat from script.rounds e) (sym begin)
        (subst (λ (t : Top). IsWithinWindow t.beat (era_begin script) script.rounds e)
        (sym top_is) fits))

pub fits_any : (beat since last other : ℕ) (e : Explanation) → last ≡ other
    → IsWithinWindow beat since last e
    → IsWithinWindow beat 0 other e
fits_any beat since last other e same fits =
    let window = fits.window in
    record {
      from = omega arith;
      window = omega (arith, window, same);
      begins = fits.begins;
      ends = fits.ends;
    }
