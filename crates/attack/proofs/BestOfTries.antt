-- What a search finds is the best of its tries.
use Rattle.std.proofs.Common.{◌≡◌, ℕ, zero, suc, ◌<◌, inl, inr, Bool, true, false, Option, Some}
use Rattle.std.proofs.Common.{None, ◌≤◌, Result, Ok, Err, refl, sym, ◌∙◌, subst, arith}
use Rattle.std.specs.Prelude.{IfOk, nat_lt, if◌then◌else◌}
use Rattle.std.proofs.lemmas.Bool.{true≢false, cases_lt}
use Rattle.std.proofs.lemmas.Bool.Decides.{nat_tests}
use Rattle.texts.specs.Lines.{lines_of}
use Rattle.texts.specs.Parts.{At}
use Rattle.sync_types.specs.declared.answers.Rule.{Rule}
use Rattle.state_codec.specs.Shapes.{Shape, shape_nodes}
use Rattle.machines.specs.Machines.{Machine}
use Rattle.adversary_script.specs.Scripts.{Script, IsScript}
use Rattle.adversary_script.specs.ScriptPart.{IsScriptFor}
use Rattle.adversary_script.proofs.ReadScripts.{script_fits, script_is_script}
use Rattle.machine_runner.specs.Laws.{IsReadFor}
use Rattle.machine_runner.specs.Locks.{IsFirstLocked}
use Rattle.machine_runner.specs.Played.{played_at}
use Rattle.machine_runner.proofs.ReadFor.{readers_fit, borne_in}
use Rattle.machine_runner.proofs.FirstLocked.{firsts_are_locked}
use Rattle.attack.specs.Attacks.{Attack}
use Rattle.attack.specs.AttackTexts.{attack_text}
use Rattle.attack.specs.AttackScripts.{attack_script}
use Rattle.attack.specs.Targets.{IsTarget}
use Rattle.attack.specs.Tried.{script_in, tried_as, lock_of}
use Rattle.attack.specs.Searches.{is_later, better, searched, attack_at, outcome}
use Rattle.attack.specs.SearchLaws.{IsNoLater, IsPlayed, IsBestOf, SearchesFindBest}
use Rattle.attack.specs.declared.searching.Best.{Best}
use Rattle.attack.specs.declared.trying.Tried.{Tried}
use Rattle.attack.specs.declared.trying.Tried.TheVariants as tried
use Rattle.attack.proofs.ReadAttacks.{attack_is_said}

-- ---- later ones

less : (o l b : ℕ) → o ≤ b → nat_lt l b ≡ false → o ≤ l
less o l b low high = grind (arith, nat_tests)

not_both_ways : (a b : ℕ) → nat_lt b a ≡ true → b ≤ a
not_both_ways a b later = grind (arith, nat_tests)

-- each is no later than itself
pub not_self : (lock : Option ℕ) → IsNoLater lock lock
not_self None = tt
not_self (Some n) = omega arith

-- of two at most one is later than the other
other_not : (a b : Option ℕ) → is_later a b ≡ true → IsNoLater b a
other_not a None later = absurd (true≢false (sym later))
other_not None (Some b) later = tt
other_not (Some a) (Some b) later = not_both_ways a b later

-- what is no later than the best one is no later than one that the best one is not later than
pub outlasted : (lock best other : Option ℕ) → is_later best lock ≡ false → IsNoLater other best
    → IsNoLater other lock
outlasted None best other later not = tt
outlasted (Some l) None other later not = absurd (true≢false later)
outlasted (Some l) (Some b) None later not = absurd not
outlasted (Some l) (Some b) (Some o) later not = less o l b not later

-- what holds of all indexes below a number and of that number holds of all up to it
up_to : (P : ℕ → Type 0) (runs : ℕ) → ((index : ℕ) → index < runs → P index) → P runs
    → (index : ℕ) → index < suc runs → P index
up_to P runs below here index lt = elim (cases_lt index runs) [
  | inl before ↦ below index before
  | inr from ↦ let same : runs ≡ index = omega (arith, lt, from) in subst P same here
]

-- an outcome is one
not_both : (t : Tried) (lock : Option ℕ) → t ≡ tried.Refused → t ≡ tried.Played lock → ⊥
not_both t lock refused played =
    let both : tried.Refused ≡ tried.Played lock = sym refused ∙ played in cc

same_lock : (t : Tried) (lock other : Option ℕ) → t ≡ tried.Played lock → t ≡ tried.Played other
    → lock ≡ other
same_lock t lock other is also =
    let both : tried.Played lock ≡ tried.Played other = sym is ∙ also in cc

module _ (machine : Machine) (shape : Shape) (first_line : ℕ)
    (target : IsTarget machine shape first_line) where
  -- ---- what was played

  module _ (attack : Attack) where
    abbrev read : Result Script (At Rule)
    read = script_in machine shape first_line (attack_text machine attack)

    fits : IfOk read (IsScriptFor (shape_nodes shape) machine.faults shape)
    fits = script_fits (shape_nodes shape) machine.faults shape target.shaped.sound first_line
        (lines_of (attack_text machine attack))

    whole : IfOk read IsScript
    whole = script_is_script (shape_nodes shape) machine.faults shape target.shaped.sound
        first_line (lines_of (attack_text machine attack))

    read_for : (script : Script) → read ≡ Ok script → IsReadFor machine script
    read_for script is =
        readers_fit machine shape script target.shaped
        (subst (λ (r : Result Script (At Rule)).
        IfOk r (IsScriptFor (shape_nodes shape) machine.faults shape)) is fits)
        (subst (λ (r : Result Script (At Rule)). IfOk r IsScript) is whole)

    played_script : (lock : Option ℕ) (script : Script) → read ≡ Ok script
        → lock_of machine script ≡ lock → IsPlayed machine shape first_line attack lock
    played_script lock script is own =
        let for = read_for script is in
        record {
          script = script;
          read = is;
          says = subst
              (λ (r : Result Script (At Rule)). IfOk r (λ s. s ≡ attack_script shape attack)) is
              (attack_is_said machine shape target.shaped attack first_line);
          for = for;
          borne = borne_in machine script for;
          is = sym own;
          first = subst (IsFirstLocked machine script (played_at machine script) 0 script.rounds)
              own (firsts_are_locked machine script (played_at machine script) for.whole 0
              script.rounds (omega arith) (omega arith));
        }

    played_by : (lock : Option ℕ) (r : Result Script (At Rule)) → read ≡ r
        → tried_as machine r ≡ tried.Played lock → IsPlayed machine shape first_line attack lock
    played_by lock (Err at) is same = absurd (not_both _ lock refl same)
    played_by lock (Ok script) is same =
        played_script lock script is (same_lock _ (lock_of machine script) lock refl same)

    pub was_played : (lock : Option ℕ) → outcome machine shape first_line attack ≡ tried.Played lock
        → IsPlayed machine shape first_line attack lock
    was_played lock same = played_by lock read refl same

  -- ---- one more try

  module _ (made : (index : ℕ) → (best : Option Attack) → Attack) (runs : ℕ) where
    abbrev at : (index : ℕ) → Attack
    at index = attack_at machine shape first_line made index

    abbrev came : (index : ℕ) → Tried
    came index = outcome machine shape first_line (at index)

    -- none of the first tries locks later than this
    abbrev BelowIs : Option ℕ → (index : ℕ) → Type 0
    BelowIs lock index = (other : Option ℕ) → came index ≡ tried.Played other
        → IsNoLater other lock

    abbrev IsBefore : Option Best → Type 0
    IsBefore best = IsBestOf machine shape first_line made runs best

    abbrev IsBehind : Option Best → Type 0
    IsBehind best = IsBestOf machine shape first_line made (suc runs) best

    none_later : (lock : Option ℕ) → ((index : ℕ) → index < runs → BelowIs lock index)
        → BelowIs lock runs → (index : ℕ) (other : Option ℕ) → index < suc runs
        → came index ≡ tried.Played other → IsNoLater other lock
    none_later lock below here index other lt is =
        up_to (BelowIs lock) runs below here index lt other is

    -- the best one stays if the further try is not later
    kept : (best : Best) → IsBefore (Some best) → BelowIs best.lock runs → IsBehind (Some best)
    kept best is here =
        let among = is.tried.among in
        record {
          tried = record {
            index = is.tried.index;
            among = omega (arith, among);
            is = is.tried.is;
          };
          played = is.played;
          latest = none_later best.lock (λ index lt other came. is.latest index other lt came) here;
        }

    -- a try that was played is the best one if those before are not later
    taken : (lock : Option ℕ) → came runs ≡ tried.Played lock
        → ((index : ℕ) → index < runs → BelowIs lock index)
        → IsBehind (Some (record { attack = at runs; lock = lock }))
    taken lock is below = record {
      tried = record { index = runs; among = omega arith; is = refl };
      played = was_played (at runs) lock is;
      latest = none_later lock below (λ other also.
          subst (λ (o : Option ℕ). IsNoLater o lock) (same_lock _ lock other is also)
          (not_self lock));
    }

    after_refused : (best : Option Best) → IsBefore best → came runs ≡ tried.Refused
        → IsBehind best
    after_refused None is refused = up_to (λ index. came index ≡ tried.Refused) runs is refused
    after_refused (Some best) is refused =
        kept best is (λ other played. absurd (not_both _ other refused played))

    by_test : (best : Best) (lock : Option ℕ) (stays : Bool) → is_later best.lock lock ≡ stays
        → IsBefore (Some best) → came runs ≡ tried.Played lock
        → IsBehind (Some (if stays then best else record { attack = at runs; lock = lock }))
    by_test best lock true later is played =
        kept best is (λ other also.
        subst (λ (o : Option ℕ). IsNoLater o best.lock) (same_lock _ lock other played also)
        (other_not best.lock lock later))
    by_test best lock false later is played =
        taken lock played (λ index lt other came.
        outlasted lock best.lock other later (is.latest index other lt came))

    after_played : (best : Option Best) (lock : Option ℕ) → IsBefore best
        → came runs ≡ tried.Played lock → IsBehind (better best (at runs) (tried.Played lock))
    after_played None lock is played =
        taken lock played (λ index lt other came.
        absurd (not_both _ other (is index lt) came))
    after_played (Some best) lock is played =
        by_test best lock (is_later best.lock lock) refl is played

    one_more : (best : Option Best) (t : Tried) → IsBefore best → came runs ≡ t
        → IsBehind (better best (at runs) t)
    one_more best tried.Refused is same = after_refused best is same
    one_more best (tried.Played lock) is same = after_played best lock is same

  best_of : (made : (index : ℕ) → (best : Option Attack) → Attack) (runs : ℕ)
      → IsBestOf machine shape first_line made runs (searched machine shape first_line made runs)
  best_of made zero = λ index lt. absurd (omega (arith, lt))
  best_of made (suc runs) =
      one_more made runs (searched machine shape first_line made runs) (came made runs runs)
      (best_of made runs) refl

pub searches_find_best : SearchesFindBest
searches_find_best machine shape first_line made runs target =
    best_of machine shape first_line target made runs
