-- Looking up in a script finds what its lines say.
use Rattle.std.proofs.Common.{◌≡◌, ◌≢◌, ℕ, ◌+◌, Bool, true, false, cond}
use Rattle.std.proofs.Common.{List, [], ◌∷◌, ◌++◌, length, map, get_or, Option, Some, None, nat_le}
use Rattle.std.proofs.Common.{refl, ap, ◌∙◌}
use Rattle.std.specs.Prelude.{◌==◌, find, slice_get}
use Rattle.std.specs.List.{AllByRecursion}
use Rattle.std.specs.Option.{option_map, option_and_then}
use Rattle.std.proofs.lemmas.Bool.{and_parts, and_from, eqb-true, eq-eqb, ne_eqb, leb-true, le-leb}
use Rattle.sync_types.specs.States.{State}
use Rattle.construction.specs.Steps.{state_of}
use Rattle.construction.specs.Runs.{is_in}
use Rattle.adversary_script.specs.declared.lies.Who.{Who}
use Rattle.adversary_script.specs.declared.lies.Who.TheVariants as who
use Rattle.adversary_script.specs.declared.lies.Lie.{Lie}
use Rattle.adversary_script.specs.declared.lies.Start.{Start}
use Rattle.adversary_script.specs.Scripts.{Script, Era, Group, firsts}
use Rattle.adversary_script.specs.Lookup.{in_group, hears, speaks, start_in}
use Rattle.adversary_script.specs.Lies.{common_start, own_or_common, start_of, lie_state}
use Rattle.adversary_script.specs.Lies.{lie_or_puppet, lie_of}
use Rattle.promises.specs.SaidLines.{SaysEras, NoneIsOf, IsFirstOf, SaysStarts, Hears, Speaks}
use Rattle.promises.specs.SaidLines.{SaysLies, SaysLines}

-- ---- lists

at_middle : {X Y : Type 0} (f : X → Y) (d : Y) (before after : List X) (x : X)
    → get_or (map f (before ++ x ∷ after)) (length before) d ≡ f x
at_middle f d [] after x = refl
at_middle f d (y ∷ before) after x = at_middle f d before after x

-- the first that passes a test
find_here : {X : Type 0} (b : Bool) (x : X) (rest : Option X) → b ≡ true
    → cond b (Some x) rest ≡ Some x
find_here true x rest is = refl
find_here false x rest is = absurd cc

find_past : {X : Type 0} (b : Bool) (x : X) (rest : Option X) → b ≡ false
    → cond b (Some x) rest ≡ rest
find_past true x rest is = absurd cc
find_past false x rest is = refl

find_first : {X : Type 0} (p : X → Bool) (before after : List X) (x : X) → p x ≡ true
    → AllByRecursion (λ y. p y ≡ false) before → find p (before ++ x ∷ after) ≡ Some x
find_first p [] after x is none = find_here (p x) x (find p after) is
find_first p (y ∷ before) after x is none =
    find_past (p y) y (find p (before ++ x ∷ after)) none.0
    ∙ find_first p before after x is none.1

find_none : {X : Type 0} (p : X → Bool) (xs : List X) → AllByRecursion (λ y. p y ≡ false) xs
    → find p xs ≡ None
find_none p [] none = refl
find_none p (y ∷ xs) none = find_past (p y) y (find p xs) none.0 ∙ find_none p xs none.1

each_fails : {X : Type 0} (P : X → Type 0) (p : X → Bool) → ((x : X) → P x → p x ≡ false)
    → (xs : List X) → AllByRecursion P xs → AllByRecursion (λ x. p x ≡ false) xs
each_fails P p fails [] all = tt
each_fails P p fails (x ∷ xs) all = (fails x all.0, each_fails P p fails xs all.1)

-- ---- eras

says_eras : (script : Script) → SaysEras script
says_eras script = record {
  first = refl;
  faulty = refl;
  firsts = λ before after era is.
      ap (λ eras. get_or (map (λ (e : Era). e.first) eras) (length before) 0) is
      ∙ at_middle (λ (e : Era). e.first) 0 before after era;
  sets = λ before after era is.
      ap (λ eras. get_or (map (λ (e : Era). e.faulty) eras) (length before) []) is
      ∙ at_middle (λ (e : Era). e.faulty) [] before after era;
}

-- ---- starts

module _ (v : ℕ) (lines : List Start) where
  not_own : (line : Start) → line.node ≢ v → (line.node == v) ≡ false
  not_own line other = ne_eqb line.node v other

  start_is : (line : Start) → IsFirstOf v lines line → start_in lines v ≡ Some line.state
  start_is line first =
      ap (λ found. option_map (λ (s : Start). s.state) found)
      (ap (find (λ (s : Start). s.node == v)) first.is
      ∙ find_first (λ (s : Start). s.node == v) first.before first.after line
      (eq-eqb line.node v first.own)
      (each_fails (λ (s : Start). s.node ≢ v) (λ (s : Start). s.node == v) not_own first.before
      first.none))

  no_start : NoneIsOf v lines → start_in lines v ≡ None
  no_start none =
      ap (λ found. option_map (λ (s : Start). s.state) found)
      (find_none (λ (s : Start). s.node == v) lines
      (each_fails (λ (s : Start). s.node ≢ v) (λ (s : Start). s.node == v) not_own lines none))

module _ (script : Script) where
  not_first : (t : ℕ) (era : Era) → era.first ≢ t → (era.first == t) ≡ false
  not_first t era other = ne_eqb era.first t other

  era_found : (before after : List Era) (era : Era) → script.eras ≡ before ++ era ∷ after
      → AllByRecursion (λ other. other.first ≢ era.first) before
      → find (λ (e : Era). e.first == era.first) script.eras ≡ Some era
  era_found before after era is none =
      ap (find (λ (e : Era). e.first == era.first)) is
      ∙ find_first (λ (e : Era). e.first == era.first) before after era
      (eq-eqb era.first era.first refl)
      (each_fails (λ (e : Era). e.first ≢ era.first) (λ (e : Era). e.first == era.first)
      (not_first era.first) before none)

  start_own : (v : ℕ) (line : Start) → IsFirstOf v script.starts line
      → start_of script v ≡ line.state
  unfolding start_of
  start_own v line first =
      ap (λ found. own_or_common script found v) (start_is v script.starts line first)

  start_common : (v : ℕ) → NoneIsOf v script.starts
      → start_of script v ≡ common_start script script.common v
  unfolding start_of
  start_common v none = ap (λ found. own_or_common script found v) (no_start v script.starts none)

  says_starts : SaysStarts script
  says_starts = record {
    own = start_own;
    common = start_common;
    hits = λ before after era is none v line first.
        ap (option_and_then (λ (e : Era). start_in e.starts v)) (era_found before after era is none)
        ∙ start_is v era.starts line first;
    spared = λ before after era is none v none_too.
        ap (option_and_then (λ (e : Era). start_in e.starts v)) (era_found before after era is none)
        ∙ no_start v era.starts none_too;
    quiet = λ t v none.
        ap (option_and_then (λ (e : Era). start_in e.starts v))
        (find_none (λ (e : Era). e.first == t) script.eras
        (each_fails (λ (e : Era). e.first ≢ t) (λ (e : Era). e.first == t) (not_first t)
        script.eras none));
  }

-- ---- lies

in_group_is : (found : Option Group) (v : ℕ) → in_group found v ≡ true
    → (group : Group) × (found ≡ Some group) × (is_in group.ids v ≡ true)
in_group_is None v is = absurd cc
in_group_is (Some group) v is = (group, refl, is)

group_hears : (groups : List Group) (i v : ℕ) (group : Group) → slice_get groups i ≡ Some group
    → is_in group.ids v ≡ true → in_group (slice_get groups i) v ≡ true
group_hears groups i v group is heard = ap (λ found. in_group found v) is ∙ heard

hears_is : (groups : List Group) (w : Who) (v : ℕ) → Hears groups w v → hears groups w v ≡ true
hears_is groups who.All v heard = refl
hears_is groups (who.Ids p q) v heard =
    and_from (nat_le p v) (nat_le v q) (le-leb p v heard.0) (le-leb v q heard.1)
hears_is groups (who.Group i) v heard = group_hears groups i v heard.0 heard.1 heard.2

is_heard : (groups : List Group) (w : Who) (v : ℕ) → hears groups w v ≡ true → Hears groups w v
is_heard groups who.All v is = tt
is_heard groups (who.Ids p q) v is =
    let parts = and_parts (nat_le p v) (nat_le v q) is in
    (leb-true p v parts.0, leb-true v q parts.1)
is_heard groups (who.Group i) v is = in_group_is (slice_get groups i) v is

module _ (script : Script) (t u v : ℕ) where
  speaks_is : (lie : Lie) → Speaks script t u v lie → speaks script.groups t u v lie ≡ true
  speaks_is lie s =
      and_from _ _
      (and_from _ _
      (and_from _ _ (eq-eqb lie.sender u s.sender) (le-leb lie.first t s.from))
      (le-leb t lie.last s.to))
      (hears_is script.groups lie.who v s.heard)

  is_spoken : (lie : Lie) → speaks script.groups t u v lie ≡ true → Speaks script t u v lie
  is_spoken lie is =
      let last = and_parts _ _ is in
      let to = and_parts _ _ last.0 in
      let from = and_parts _ _ to.0 in
      record {
        sender = eqb-true lie.sender u from.0;
        from = leb-true lie.first t from.1;
        to = leb-true t lie.last to.1;
        heard = is_heard script.groups lie.who v last.1;
      }

  not_spoken_by : (lie : Lie) → (Speaks script t u v lie → ⊥) → (b : Bool)
      → speaks script.groups t u v lie ≡ b → b ≡ false
  not_spoken_by lie silent true is = absurd (silent (is_spoken lie is))
  not_spoken_by lie silent false is = refl

  not_spoken : (lie : Lie) → (Speaks script t u v lie → ⊥)
      → speaks script.groups t u v lie ≡ false
  not_spoken lie silent = not_spoken_by lie silent (speaks script.groups t u v lie) refl

  module _ (config : List State) where
    told_is : (before after : List Lie) (lie : Lie) → script.lies ≡ before ++ lie ∷ after
        → Speaks script t u v lie
        → AllByRecursion (λ other. Speaks script t u v other → ⊥) before
        → lie_of script t u v config ≡ lie_state script t u v config lie.what
    unfolding lie_of
    told_is before after lie is speaks_now silent =
        ap (lie_or_puppet script t u v config)
        (ap (find (speaks script.groups t u v)) is
        ∙ find_first (speaks script.groups t u v) before after lie (speaks_is lie speaks_now)
        (each_fails (λ (d : Lie). Speaks script t u v d → ⊥) (speaks script.groups t u v)
        not_spoken before silent))

    puppet_is : AllByRecursion (λ lie. Speaks script t u v lie → ⊥) script.lies
        → lie_of script t u v config ≡ state_of config u
    unfolding lie_of
    puppet_is silent =
        ap (lie_or_puppet script t u v config)
        (find_none (speaks script.groups t u v) script.lies
        (each_fails (λ (d : Lie). Speaks script t u v d → ⊥) (speaks script.groups t u v)
        not_spoken script.lies silent))

says_lies : (script : Script) → SaysLies script
says_lies script = record {
  told = λ before after lie is t u v speaks_now silent config.
      told_is script t u v config before after lie is speaks_now silent;
  puppet = λ t u v silent config. puppet_is script t u v config silent;
}

pub says_lines : (script : Script) → SaysLines script
says_lines script = record {
  eras = says_eras script;
  starts = says_starts script;
  lies = says_lies script;
}
