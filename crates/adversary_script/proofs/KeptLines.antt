-- What each line keeps: a script is well formed, for its counter, and such that a text can say it.
use Rattle.std.proofs.Common.{◌≡◌, ℕ, ◌^◌, ◌<◌, ◌≤◌, true, false, not, ◌&&◌, ◌||◌, List, [], ◌∷◌}
use Rattle.std.proofs.Common.{length, nat_le, nat_lt, Option, Some, None, refl, sym, arith}
use Rattle.std.specs.Prelude.{⊤, IfOk, IfSome, is_some, codes}
use Rattle.std.specs.Str.{bytes_eq}
use Rattle.std.specs.List.{list_any}
use Rattle.std.proofs.lemmas.Bool.{not-false, ltb-false, leb-false, and_parts, or_parts}
use Rattle.std.proofs.lemmas.Bool.{true≢false}
use Rattle.texts.specs.Numbers.{number_of}
use Rattle.texts.specs.Shapes.{all_numbers}
use Rattle.sync_types.specs.FaultSets.{is_in}
use Rattle.sync_types.specs.States.{State}
use Rattle.state_codec.specs.Shapes.{Shape, IsShape, fields_at}
use Rattle.state_codec.specs.Ranges.{InRange}
use Rattle.adversary_script.specs.declared.kinds.Kind.{Kind}
use Rattle.adversary_script.specs.declared.kinds.Kind.TheVariants as kind
use Rattle.adversary_script.specs.declared.lies.CommonStart.{CommonStart}
use Rattle.adversary_script.specs.declared.lies.CommonStart.TheVariants as common
use Rattle.adversary_script.specs.declared.lies.Lie.{Lie}
use Rattle.adversary_script.specs.declared.lies.Start.{Start}
use Rattle.adversary_script.specs.declared.lies.Who.{Who}
use Rattle.adversary_script.specs.declared.lies.What.{What}
use Rattle.adversary_script.specs.Kinds.{may_follow}
use Rattle.adversary_script.specs.LieWords.{LieSaid, lie_words}
use Rattle.adversary_script.specs.WordTests.{only, both, is_name, is_rising}
use Rattle.adversary_script.specs.WordTests.{who_below, what_below, is_crossed}
use Rattle.adversary_script.specs.Scripts.{Script, faulty_sets, IsLying, most_rounds}
use Rattle.adversary_script.specs.FaultySteps.{faulty_tests, faulty_tested, era_words, last_era}
use Rattle.adversary_script.specs.FaultySteps.{last_first, era_tests, era_tested}
use Rattle.adversary_script.specs.StartSteps.{is_above, last_starts, with_start, start_tests}
use Rattle.adversary_script.specs.StartSteps.{start_tested, start_step}
use Rattle.adversary_script.specs.LieSteps.{group_at, state_of_digits, who_of, what_of, with_lie}
use Rattle.adversary_script.specs.LieSteps.{lie_tests, lie_tested}
use Rattle.adversary_script.specs.Steps.{done, head_tested, key_of_digits, with_key, seed_tested}
use Rattle.adversary_script.specs.Steps.{group_tests, group_tested, group_step, rounds_tests}
use Rattle.adversary_script.specs.Steps.{rounds_tested, show_tests, show_tested, line_step}
use Rattle.adversary_script.specs.Writable.{IsKey, IsHeard, IsSayable}
use Rattle.adversary_script.proofs.RisingIds.{id_below}
use Rattle.adversary_script.proofs.Tested.{tested_keeps, either_keeps, any_ok}
use Rattle.adversary_script.proofs.SoundLines.{IsSound, digits_in_range, what_lies, sender_below}
use Rattle.adversary_script.proofs.SoundLines.{copied_below, rises, set_borne, limited}
use Rattle.adversary_script.proofs.SoundLines.{others_sound, faulty_sound, era_sound, start_sound}
use Rattle.adversary_script.proofs.SoundLines.{lie_sound, numbers_sound}
use Rattle.adversary_script.proofs.SaidWords.{IsSmallLie, lie_small, key_is, who_heard}
use Rattle.adversary_script.proofs.SaidWords.{what_sayable}
use Rattle.adversary_script.proofs.SaidLines.{IsSaid, others_said, faulty_said, era_said}
use Rattle.adversary_script.proofs.SaidLines.{start_said, group_said, lie_said}

-- what holds after each line, and before all
pub record IsSoundAndSaid (nodes faults : ℕ) (shape : Shape) (s : Script) : Type 0 where
  pub sound : IsSound nodes faults shape s
  pub said : IsSaid s

-- nothing is said of lies and of eras before the line of the faulty nodes
abbrev pub IsBare : Script → Type 0
IsBare s = (s.lies ≡ []) × (s.eras ≡ [])

abbrev pub IsBareAfter : Option Kind → Script → Type 0
IsBareAfter None s = IsBare s
IsBareAfter (Some kind.Script) s = IsBare s
IsBareAfter other s = ⊤

-- the first line stands after none, and that of the faulty nodes after it
bare_at_first : (last : Option Kind) (s : Script) → may_follow last kind.Script ≡ true
    → IsBareAfter last s → IsBare s
bare_at_first None s may bare = bare
bare_at_first (Some kind.Script) s may bare = bare
bare_at_first last s may bare = absurd (true≢false (sym may))

bare_at_faulty : (last : Option Kind) (s : Script) → may_follow last kind.Faulty ≡ true
    → IsBareAfter last s → IsBare s
bare_at_faulty None s may bare = bare
bare_at_faulty (Some kind.Script) s may bare = bare
bare_at_faulty last s may bare = absurd (true≢false (sym may))

head_bare : (s : Script) (word : Option (List ℕ)) → IsBare s → IfOk (head_tested s word) IsBare
head_bare s None bare = tt
head_bare s (Some word) bare =
    either_keeps IsBare (bytes_eq word (codes "1")) _ _ bare
    (either_keeps IsBare (bytes_eq word (codes "2")) _ _ bare tt)

pub line_bare : (f : ℕ) (last : Option Kind) (k : Kind) (s : Script) (words : List (List ℕ))
    → may_follow last k ≡ true → IsBareAfter last s
    → IfOk (line_step f k s words) (IsBareAfter (Some k))
line_bare f last kind.Script s words may bare =
    head_bare s (only words) (bare_at_first last s may bare)
line_bare f last k s words may bare = any_ok (line_step f k s words)

module _ (nodes faults : ℕ) (shape : Shape) (shaped : IsShape shape) (s : Script)
    (h : IsSoundAndSaid nodes faults shape s) where
  abbrev Kept : Script → Type 0
  Kept = IsSoundAndSaid nodes faults shape

  -- with another version, key or common start
  others_kept : (version : ℕ) (key : List ℕ) (start : CommonStart) → 1 ≤ version → version ≤ 2
      → (version ≡ 1 → s.eras ≡ []) → IsKey key
      → Kept (record s { version = version; key = key; common = start })
  others_kept version key start some few eras is = record {
    sound = others_sound nodes faults shape s h.sound version key start s.groups;
    said = others_said s h.said version key start s.rounds s.first s.last some few eras is;
  }

  version_kept : (version : ℕ) → 1 ≤ version → version ≤ 2 → IsBare s
      → Kept (record s { version = version })
  version_kept version some few bare =
      others_kept version s.key s.common some few (λ _. bare.1) h.said.key

  head_kept : (word : Option (List ℕ)) → IsBare s → IfOk (head_tested s word) Kept
  head_kept None bare = tt
  head_kept (Some word) bare =
      either_keeps Kept (bytes_eq word (codes "1")) _ _
      (version_kept 1 (omega arith) (omega arith) bare)
      (either_keeps Kept (bytes_eq word (codes "2")) _ _
      (version_kept 2 (omega arith) (omega arith) bare) tt)

  key_kept : (key : Option (List ℕ)) → IfSome key IsKey → IfOk (with_key s key) Kept
  key_kept None is = tt
  key_kept (Some key) is =
      let said = h.said in
      others_kept s.version key s.common said.oldest said.newest said.eras is

  seed_kept : (word : Option (List ℕ)) → IfOk (seed_tested s word) Kept
  seed_kept None = tt
  seed_kept (Some word) = key_kept (key_of_digits word) (key_is word)

  done_kept : (t : Script) (words : List (List ℕ)) → Kept t → IfOk (done t words) Kept
  done_kept t [] kept = kept
  done_kept t (word ∷ words) kept = tt

  common_kept : (start : CommonStart) → Kept (record s { common = start })
  common_kept start =
      let said = h.said in
      others_kept s.version s.key start said.oldest said.newest said.eras said.key

  -- ---- faulty nodes and eras

  faulty_kept : (ids : Option (List ℕ)) → IsBare s → IfOk (faulty_tested faults s ids) Kept
  faulty_kept None bare = tt
  faulty_kept (Some ids) bare =
      tested_keeps Kept (faulty_tests faults s ids) _ (λ passed.
      let below = not-false _ passed.0 in
      let rising = not-false _ passed.1.0 in
      let few = ltb-false faults (length ids) passed.1.1.0 in
      record {
        sound = faulty_sound nodes faults shape s h.sound ids below
            (set_borne nodes faults shape s h.sound ids below rising few);
        said = faulty_said s h.said ids bare.0;
      })

  era_kept : (said : Option (ℕ × List ℕ)) → IfOk (era_tested faults s said) Kept
  era_kept None = tt
  era_kept (Some said) =
      tested_keeps Kept (era_tests faults s said.0 said.1) _ (λ passed.
      let room = leb-false 16 (length s.eras) passed.1.0 in
      let below = not-false _ passed.1.1.0 in
      let order =
      or_parts (nat_le said.0 (last_first s)) (not (is_rising said.1)) passed.1.1.1.0 in
      let few = ltb-false faults (length said.1) passed.1.1.1.1.0 in
      record {
        sound = era_sound nodes faults shape s h.sound said.0 said.1 room
            (leb-false said.0 (last_first s) order.0) below
            (set_borne nodes faults shape s h.sound said.1 below (not-false _ order.1) few);
        said = era_said s h.said said.0 said.1 passed.0;
      })

  -- ---- starts

  state_kept : (v : ℕ) (state : Option State) → IfSome state (InRange (fields_at s.shape v))
      → is_above (last_starts s) v ≡ true → v < s.nodes → IfOk (with_start s v state) Kept
  state_kept v None range above lt = tt
  state_kept v (Some state) range above lt =
      let start : Start = record { node = v; state = state } in
      record {
        sound = start_sound nodes faults shape s h.sound start range;
        said = start_said s h.said (last_era s.eras) start refl above lt;
      }

  start_tested_kept : (v : Option ℕ) (word : List ℕ) → IfOk (start_tested s v word) Kept
  start_tested_kept None word = tt
  start_tested_kept (Some v) word =
      tested_keeps Kept (start_tests s v) _ (λ passed.
      state_kept v (state_of_digits (fields_at s.shape v) word)
      (digits_in_range (fields_at s.shape v) word
      (limited nodes faults shape s h.sound shaped v))
      (not-false _ passed.1.0) (leb-false s.nodes v passed.0))

  start_kept : (words : Option (List ℕ × List ℕ)) → IfOk (start_step s words) Kept
  start_kept None = tt
  start_kept (Some words) = start_tested_kept (number_of words.0) words.1

  -- ---- groups

  none_found : (found : Option ℕ) → is_some found ≡ false → found ≡ None
  none_found None is = refl
  none_found (Some i) is = absurd (true≢false is)

  named_kept : (name : List ℕ) (ids : Option (List ℕ)) → IfOk (group_tested s name ids) Kept
  named_kept name None = tt
  named_kept name (Some []) = tt
  named_kept name (Some (id ∷ ids)) =
      tested_keeps Kept (group_tests s name (id ∷ ids)) _ (λ passed.
      let below = not-false _ passed.1.0 in
      let last = or_parts (not (is_name name) || bytes_eq name (codes "all"))
      (is_some (group_at s.groups name)) passed.1.1.1.0 in
      let first = or_parts (not (is_name name)) (bytes_eq name (codes "all")) last.0 in
      record {
        sound = others_sound nodes faults shape s h.sound s.version s.key s.common _;
        said = group_said s h.said (record { name = name; ids = id ∷ ids })
            (leb-false 256 (length s.groups) passed.0)
            (record {
              named = not-false _ first.0;
              other = first.1;
              some = omega arith;
              rising = rises (id ∷ ids) (not-false _ passed.1.1.0);
              below = λ k d lt. id_below s.nodes (id ∷ ids) k d below lt;
            })
            (none_found (group_at s.groups name) last.1);
      })

  group_kept : (words : List (List ℕ)) → IfOk (group_step s words) Kept
  group_kept [] = tt
  group_kept (name ∷ words) = named_kept name (all_numbers words)

  -- ---- lies

  told_kept : (l : LieSaid) (said : Option What) (who : Option Who) → length s.lies < 256
      → l.sender < s.nodes → list_any (λ ids. is_in ids l.sender) (faulty_sets s) ≡ true
      → l.first ≤ l.last → l.last < 10 ^ 15
      → IfSome said (IsLying s.nodes (fields_at s.shape l.sender)) → IfSome said IsSayable
      → IfSome who (IsHeard s.nodes s.groups) → IfOk (with_lie s l said who) Kept
  told_kept l None who room sender faulty order small lies sayable heard = tt
  told_kept l (Some said) None room sender faulty order small lies sayable heard = tt
  told_kept l (Some said) (Some who) room sender faulty order small lies sayable heard =
      let lie : Lie =
      record { first = l.first; last = l.last; sender = l.sender; who = who; what = said } in
      record {
        sound = lie_sound nodes faults shape s h.sound lie sender lies;
        said = lie_said s h.said lie room
            (record { faulty = faulty; order = order; last = small; who = heard; what = sayable });
      }

  lie_kept : (l : Option LieSaid) → IfSome l IsSmallLie → IfOk (lie_tested s l) Kept
  lie_kept None small = tt
  lie_kept (Some l) small =
      tested_keeps Kept (lie_tests s l) _ (λ passed.
      let ids = not-false _ passed.1.0 in
      let faulty = list_any (λ ids. is_in ids l.sender) (faulty_sets s) in
      let third = and_parts (nat_lt l.sender s.nodes && faulty && who_below s.nodes l.who)
      (what_below s.nodes l.what) ids in
      let second = and_parts (nat_lt l.sender s.nodes && faulty) (who_below s.nodes l.who)
      third.0 in
      let first = and_parts (nat_lt l.sender s.nodes) faulty second.0 in
      let straight = or_parts (nat_lt l.last l.first) (is_crossed l.who) passed.1.1.0 in
      let fields = fields_at s.shape l.sender in
      told_kept l (what_of fields l.what) (who_of s.groups l.who)
      (leb-false 256 (length s.lies) passed.0)
      (sender_below s.nodes (faulty_sets s) l ids) first.1
      (ltb-false l.last l.first straight.0) small.last
      (what_lies s.nodes fields l.what (limited nodes faults shape s h.sound shaped l.sender)
      (copied_below s.nodes (faulty_sets s) l ids))
      (what_sayable fields l.what small.what)
      (who_heard s.nodes s.groups l.who second.1 straight.1))

  -- ---- what is played

  numbers_kept : (rounds first last : ℕ) → rounds ≤ most_rounds → first ≤ last → last ≤ rounds
      → Kept (record s { rounds = rounds; first = first; last = last })
  numbers_kept rounds first last few order shown =
      let said = h.said in
      record {
        sound = numbers_sound nodes faults shape s h.sound rounds first last few order shown;
        said = others_said s h.said s.version s.key s.common rounds first last said.oldest
            said.newest said.eras said.key;
      }

  rounds_kept : (numbers : Option (List ℕ)) → IfOk (rounds_tested s numbers) Kept
  rounds_kept (Some (r ∷ [])) =
      tested_keeps Kept (rounds_tests s r) _ (λ passed.
      numbers_kept r 0 0 (ltb-false most_rounds r passed.0) (omega arith) (omega arith))
  rounds_kept other = tt

  show_kept : (numbers : Option (List ℕ)) → IfOk (show_tested s numbers) Kept
  show_kept (Some (a ∷ b ∷ [])) =
      tested_keeps Kept (show_tests s a b) _ (λ passed.
      let parts = or_parts (nat_lt b a) (nat_lt s.rounds b) passed.0 in
      numbers_kept s.rounds a b h.sound.formed.few (ltb-false b a parts.0)
      (ltb-false s.rounds b parts.1))
  show_kept other = tt

  -- a line that may stand here keeps all of it
  pub line_kept : (last : Option Kind) (k : Kind) (words : List (List ℕ))
      → may_follow last k ≡ true → IsBareAfter last s
      → IfOk (line_step faults k s words) (IsSoundAndSaid nodes faults shape)
  line_kept last kind.Script words may bare = head_kept (only words) (bare_at_first last s may bare)
  line_kept last kind.Faulty words may bare =
      faulty_kept (all_numbers words) (bare_at_faulty last s may bare)
  line_kept last kind.Seed words may bare = seed_kept (only words)
  line_kept last kind.StartZero words may bare = done_kept _ words (common_kept common.Zero)
  line_kept last kind.StartNoise words may bare = done_kept _ words (common_kept common.Noise)
  line_kept last kind.StartNode words may bare = start_kept (both words)
  line_kept last kind.Era words may bare = era_kept (era_words words)
  line_kept last kind.Group words may bare = group_kept words
  line_kept last kind.Lie words may bare = lie_kept (lie_words words) (lie_small words)
  line_kept last kind.Rounds words may bare = rounds_kept (all_numbers words)
  line_kept last kind.Show words may bare = show_kept (all_numbers words)
  line_kept last kind.End words may bare = done_kept s words h
