-- The walk along the lies of a sender, which are linked.
use Rattle.std.proofs.Common.{◌≡◌, ℕ, suc, ◌+◌, ◌<◌, List, [], ◌∷◌, length, drop, get_or, Bool}
use Rattle.std.proofs.Common.{true, false, ◌==◌, refl, sym, ap, ◌∙◌, arith}
use Rattle.std.specs.List.{position_or_len, find}
use Rattle.std.proofs.lemmas.Bool.{eqb-true}
use Rattle.std.proofs.lemmas.List.{drop_more, length-drop, get_or_default, drop-drop, get_or-drop}
use Rattle.std.proofs.lemmas.List.Sums.{passes_at_first}
use Rattle.adversary_script.specs.declared.lies.Lie.{Lie}
use Rattle.adversary_script.specs.Scripts.{Group}
use Rattle.adversary_script.specs.Lookup.{speaks}
use Rattle.adversary_script.specs.Links.{place_from, IsLinked}

-- the place of a lie of u has one
pub sender_at : (lies : List Lie) (u from : ℕ) (d : Lie) → place_from lies u from < length lies
    → (get_or lies (place_from lies u from) d).sender ≡ u
sender_at lies u from d lt =
    let long = length-drop from lies in
    let found :
    ((get_or (drop from lies) (position_or_len (λ lie. lie.sender == u) (drop from lies))
    d).sender == u) ≡ true = passes_at_first (λ lie. lie.sender == u) (drop from lies) d
    (omega (arith, long)) in
    let is : (get_or (drop from lies) (position_or_len (λ lie. lie.sender == u) (drop from lies))
    d).sender ≡ u = eqb-true _ _ found in
    ap (λ (l : Lie). l.sender)
    (sym (get_or-drop from lies (position_or_len (λ lie. lie.sender == u) (drop from lies)) d))
    ∙ is

-- what passes is not among those that are skipped
skipped : {X : Type 0} (P p : X → Bool) → ((x : X) → p x ≡ false → P x ≡ false) → (xs : List X)
    → find P (drop (position_or_len p xs) xs) ≡ find P xs
skipped P p fails [] = refl
skipped P p fails (x ∷ xs) = by (p x) refl (skipped P p fails xs)
  where
    by : (b : Bool) → p x ≡ b → find P (drop (position_or_len p xs) xs) ≡ find P xs
        → find P (drop (position_or_len p (x ∷ xs)) (x ∷ xs)) ≡ find P (x ∷ xs)
    by true test rest = let here : position_or_len p (x ∷ xs) ≡ 0 = rw test refl in rw here refl
    by false test rest =
        let more : position_or_len p (x ∷ xs) ≡ suc (position_or_len p xs) =
        rw test (omega arith) in
        rw (more, fails x test) rest

-- where the walk along the lies of u stands: at one of them or after all, with none before that
-- says what u tells v in round t
pub record IsAt (groups : List Group) (t u v : ℕ) (lies : List Lie) (at : ℕ) : Type 0 where
  pub sender : (d : Lie) → at < length lies → (get_or lies at d).sender ≡ u
  pub none : find (speaks groups t u v) (drop at lies) ≡ find (speaks groups t u v) lies

-- a lie of another sender does not say it
others : (groups : List Group) (t u v : ℕ) (lie : Lie) → (lie.sender == u) ≡ false
    → speaks groups t u v lie ≡ false
others groups t u v lie other = rw other refl

walk : (groups : List Group) (t u v : ℕ) (lies : List Lie) (from : ℕ)
    → find (speaks groups t u v) (drop (place_from lies u from) lies) ≡ find (speaks groups t u v)
    (drop from lies)
walk groups t u v lies from =
    ap (find (speaks groups t u v))
    (sym (drop-drop (position_or_len (λ lie. lie.sender == u) (drop from lies)) from lies))
    ∙ skipped (speaks groups t u v) (λ lie. lie.sender == u) (others groups t u v) (drop from lies)

-- the walk begins at the first lie of u
pub walk_begins : (groups : List Group) (t u v n : ℕ) (lies : List Lie) (firsts nexts : List ℕ)
    (at : ℕ) → IsLinked n lies firsts nexts → u < n → at ≡ get_or firsts u at
    → IsAt groups t u v lies at
walk_begins groups t u v n lies firsts nexts at linked lt read =
    let nodes = linked.nodes in
    let is : at ≡ place_from lies u 0 =
    read ∙ get_or_default firsts u at 0 (omega arith) ∙ linked.first u lt in
    record {
      sender =
          λ d inside. let there : place_from lies u 0 < length lies = omega (arith, is) in
          rw is (sender_at lies u 0 d there);
      none = rw is (walk groups t u v lies 0);
    }

-- and goes on to the next one
next_is : (u n : ℕ) (lies : List Lie) (firsts nexts : List ℕ) (at next : ℕ) (d : Lie)
    → IsLinked n lies firsts nexts → at < length lies → (get_or lies at d).sender ≡ u
    → next ≡ get_or nexts at next → next ≡ place_from lies u (at + 1)
next_is u n lies firsts nexts at next d linked lt sender read =
    let count = linked.count in
    read ∙ get_or_default nexts at next 0 (omega arith) ∙ linked.next at d (omega arith) lt
    ∙ ap (λ s. place_from lies s (at + 1)) sender

pub walk_goes_on : (groups : List Group) (t u v n : ℕ) (lies : List Lie) (firsts nexts : List ℕ)
    (at next : ℕ) (d : Lie) → IsLinked n lies firsts nexts → IsAt groups t u v lies at
    → at < length lies → d ≡ get_or lies at d → speaks groups t u v d ≡ false
    → next ≡ get_or nexts at next → IsAt groups t u v lies next
walk_goes_on groups t u v n lies firsts nexts at next d linked before lt lie fails read =
    let is = next_is u n lies firsts nexts at next d linked lt (before.sender d lt) read in
    let here : speaks groups t u v (get_or lies at d) ≡ false = rw lie at fails in
    let past : find (speaks groups t u v) (drop (at + 1) lies) ≡ find (speaks groups t u v)
    (drop at lies) = rw (drop_more lies at d lt, here) refl in
    record {
      sender =
          λ e inside. let there : place_from lies u (at + 1) < length lies = omega (arith, is) in
          rw is (sender_at lies u (at + 1) e there);
      none = rw is (walk groups t u v lies (at + 1) ∙ past ∙ before.none);
    }

pub walk_rises : (groups : List Group) (t u v n : ℕ) (lies : List Lie) (firsts nexts : List ℕ)
    (at next : ℕ) (d : Lie) → IsLinked n lies firsts nexts → IsAt groups t u v lies at
    → at < length lies → next ≡ get_or nexts at next → at < next
walk_rises groups t u v n lies firsts nexts at next d linked before lt read =
    let is = next_is u n lies firsts nexts at next d linked lt (before.sender d lt) read in
    omega (arith, is)
