-- The lines of lies in a script's text are read.
use Rattle.std.proofs.Common.{◌≡◌, ℕ, ◌+◌, ◌^◌, ◌<◌, ◌≤◌, true, false, List}
use Rattle.std.proofs.Common.{[], ◌∷◌, ◌++◌, length, map, Option, Some, Ok, refl}
use Rattle.std.proofs.Common.{sym, ap, subst, ◌∙◌, append_assoc, arith, All, nat_le, nat_lt}
use Rattle.std.specs.Prelude.{decimal, codes}
use Rattle.std.specs.Option.{option_map}
use Rattle.std.proofs.lemmas.Bool.{lt-leb, lt-ltb, le-ltb, and_from}
use Rattle.std.proofs.lemmas.List.{append-nil, length-append}
use Rattle.texts.specs.Numbers.{number_of}
use Rattle.texts.proofs.Printed.{ArePlain, spaced_length}
use Rattle.texts.proofs.NumberLines.{number_plain, number_short, number_read}
use Rattle.state_codec.specs.Shapes.{Fields, IsFields, fields_at, bytes_in}
use Rattle.state_codec.specs.Texts.{written_text}
use Rattle.adversary_script.specs.declared.kinds.Kind.{Kind}
use Rattle.adversary_script.specs.declared.kinds.Kind.TheVariants as kind
use Rattle.adversary_script.specs.declared.lies.Who.{Who}
use Rattle.adversary_script.specs.declared.lies.Who.TheVariants as who
use Rattle.adversary_script.specs.declared.lies.What.{What}
use Rattle.adversary_script.specs.declared.lies.What.TheVariants as what
use Rattle.adversary_script.specs.declared.lies.Lie.{Lie}
use Rattle.adversary_script.specs.Kinds.{may_follow}
use Rattle.adversary_script.specs.LieWords.{WhoSaid, everyone, between, named, WhatSaid, noise}
use Rattle.adversary_script.specs.LieWords.{copy, digits, shift, LieSaid, who_words}
use Rattle.adversary_script.specs.LieWords.{what_words, with_what, with_who, with_numbers}
use Rattle.adversary_script.specs.LieWords.{lie_words}
use Rattle.adversary_script.specs.WordTests.{who_below, what_below, are_ids, is_crossed}
use Rattle.adversary_script.specs.Scripts.{Group, Script, faulty_sets, IsLying}
use Rattle.adversary_script.specs.LieSteps.{who_of, what_of, lie_tested}
use Rattle.adversary_script.specs.ScriptTexts.{group_in, hearers, saying, lie_line}
use Rattle.adversary_script.specs.Writable.{IsGroup, AreGroups, IsHeard, IsSayable, IsLie}
use Rattle.adversary_script.proofs.WrittenWords.{number_is_not_all, id_short, name_plain}
use Rattle.adversary_script.proofs.WrittenWords.{name_short, name_is_no_number, state_plain}
use Rattle.adversary_script.proofs.WrittenWords.{state_short, state_read}
use Rattle.adversary_script.proofs.ReadOn.{IsLineOf, line_counts, lead_none, lead_line, at, GoesTo}
use Rattle.adversary_script.proofs.ReadOn.{goes_then}
use Rattle.adversary_script.proofs.WrittenStarts.{at_middle}
use Rattle.adversary_script.proofs.WrittenGroups.{group_found}

-- after starts, eras, groups and lies there may be lies, and the rounds
pub record IsLied (last : Option Kind) : Type 0 where
  pub lie : may_follow last kind.Lie ≡ true
  pub rounds : may_follow last kind.Rounds ≡ true

-- ---- words one after another

plain_both : (a b : List (List ℕ)) → ArePlain a → ArePlain b → ArePlain (a ++ b)
plain_both [] b first next = next
plain_both (word ∷ a) b first next = (first.0, plain_both a b first.1 next)

length_both : (a b : List (List ℕ)) → spaced_length (a ++ b) ≡ spaced_length a + spaced_length b
length_both [] b = omega arith
length_both (word ∷ a) b = omega (arith, length_both a b)

-- ---- who hears

abbrev who_said : List Group → Who → WhoSaid
who_said groups who.All = everyone
who_said groups (who.Ids p q) = between p q
who_said groups (who.Group i) = named (group_in groups i).name

module _ (n : ℕ) (few : n ≤ 256) (groups : List Group) (are : AreGroups n groups) where
  name_at : (i : ℕ) → i < length groups → IsGroup n (group_in groups i)
  name_at i lt = are.each i (record { name = []; ids = [] }) lt

  who_read : (who : Who) → IsHeard n groups who → (words : List (List ℕ))
      → who_words (hearers groups who ++ words) ≡ Some (who_said groups who, words)
  who_read who.All heard words = refl
  who_read (who.Ids p q) heard words =
      rw (
        number_is_not_all p (omega (arith, few, heard.0, heard.1)),
        number_read p (omega (arith, few, heard.0, heard.1)),
        number_read q (omega (arith, few, heard.1)),
      ) refl
  who_read (who.Group i) heard words =
      rw ((name_at i heard).other, name_is_no_number _ (name_at i heard).named) refl

  who_meant : (who : Who) → IsHeard n groups who
      → who_of groups (who_said groups who) ≡ Some who
  who_meant who.All heard = refl
  who_meant (who.Ids p q) heard = refl
  who_meant (who.Group i) heard = ap (option_map who.Group) (group_found n groups are i heard)

  who_plain : (who : Who) → IsHeard n groups who → ArePlain (hearers groups who)
  who_plain who.All heard = (record { some = omega arith; above = refl }, tt)
  who_plain (who.Ids p q) heard = (
    number_plain p (omega (arith, few, heard.0, heard.1)),
    (number_plain q (omega (arith, few, heard.1)), tt),
  )
  who_plain (who.Group i) heard = (name_plain _ (name_at i heard).named, tt)

  who_short : (who : Who) → IsHeard n groups who → spaced_length (hearers groups who) ≤ 17
  who_short who.All heard = omega arith
  who_short (who.Ids p q) heard = omega (
    arith,
    id_short n few p (omega (arith, heard.0, heard.1)),
    id_short n few q heard.1,
  )
  who_short (who.Group i) heard =
      omega (arith, name_short (group_in groups i).name (name_at i heard).named)

  who_is_below : (who : Who) → IsHeard n groups who → who_below n (who_said groups who) ≡ true
  who_is_below who.All heard = refl
  who_is_below (who.Ids p q) heard =
      and_from (nat_lt p n) (nat_lt q n) (lt-ltb p n (omega (arith, heard.0, heard.1)))
      (lt-ltb q n heard.1)
  who_is_below (who.Group i) heard = refl

  who_in_order : (who : Who) → IsHeard n groups who → is_crossed (who_said groups who) ≡ false
  who_in_order who.All heard = refl
  who_in_order (who.Ids p q) heard = le-ltb q p heard.0
  who_in_order (who.Group i) heard = refl

-- ---- what is said

abbrev what_said : Fields → What → WhatSaid
what_said fields what.Noise = noise
what_said fields (what.Copy w) = copy w
what_said fields (what.State state) = digits (written_text fields state)
what_said fields (what.Shift by) = shift by

module _ (n : ℕ) (few : n ≤ 256) (fields : Fields) (limited : IsFields fields)
    (some : 1 ≤ bytes_in fields) (most : bytes_in fields ≤ 2000) where
  what_read : (what : What) → IsLying n fields what → IsSayable what
      → what_words (saying fields what) ≡ Some (what_said fields what)
  what_read what.Noise lying sayable = refl
  what_read (what.Copy w) lying sayable = rw (number_read w (omega (arith, few, lying))) refl
  what_read (what.State state) lying sayable = refl
  what_read (what.Shift by) lying sayable = rw (number_read by sayable) refl

  what_meant : (what : What) → IsLying n fields what
      → what_of fields (what_said fields what) ≡ Some what
  what_meant what.Noise lying = refl
  what_meant (what.Copy w) lying = refl
  what_meant (what.State state) lying =
      ap (option_map what.State) (state_read fields state limited lying)
  what_meant (what.Shift by) lying = refl

  what_plain : (what : What) → IsLying n fields what → IsSayable what
      → ArePlain (saying fields what)
  what_plain what.Noise lying sayable = (record { some = omega arith; above = refl }, tt)
  what_plain (what.Copy w) lying sayable = (
    record { some = omega arith; above = refl },
    (number_plain w (omega (arith, few, lying)), tt),
  )
  what_plain (what.State state) lying sayable = (
    record { some = omega arith; above = refl },
    (state_plain fields state some, tt),
  )
  what_plain (what.Shift by) lying sayable = (
    record { some = omega arith; above = refl },
    (number_plain by sayable, tt),
  )

  what_short : (what : What) → IsLying n fields what → IsSayable what
      → spaced_length (saying fields what) ≤ 4005
  what_short what.Noise lying sayable = omega arith
  what_short (what.Copy w) lying sayable =
      omega (arith, number_short w (omega (arith, few, lying)))
  what_short (what.State state) lying sayable = omega (arith, state_short fields state most)
  what_short (what.Shift by) lying sayable = omega (arith, number_short by sayable)

  what_is_below : (what : What) → IsLying n fields what
      → what_below n (what_said fields what) ≡ true
  what_is_below what.Noise lying = refl
  what_is_below (what.Copy w) lying = lt-ltb w n lying
  what_is_below (what.State state) lying = refl
  what_is_below (what.Shift by) lying = refl

-- ---- the line

-- a lie passes its tests
lie_passes : (s : Script) (l : LieSaid) (what : What) (who : Who)
    → nat_le 256 (length s.lies) ≡ false → are_ids s.nodes (faulty_sets s) l ≡ true
    → nat_lt l.last l.first ≡ false → is_crossed l.who ≡ false
    → what_of (fields_at s.shape l.sender) l.what ≡ Some what → who_of s.groups l.who ≡ Some who
    → lie_tested s (Some l) ≡ Ok (record s {
      lies =
          s.lies
          ++ record { first = l.first; last = l.last; sender = l.sender; who = who; what = what }
          ∷ [];
    })
lie_passes s l what who room ids order straight told heard =
    rw (room, ids, order, straight, told, heard) refl

module _ (f : ℕ) (s : Script) (few : s.nodes ≤ 256) (are : AreGroups s.nodes s.groups)
    (fits : (v : ℕ) → v < s.nodes → (1 ≤ bytes_in (fields_at s.shape v))
    × (bytes_in (fields_at s.shape v) ≤ 2000))
    (limited : (v : ℕ) → IsFields (fields_at s.shape v)) where
  abbrev with_lies : List Lie → Script
  with_lies lies = record s { lies = lies }

  -- what is asked of a lie
  pub record IsTold (lie : Lie) : Type 0 where
    pub sender : lie.sender < s.nodes
    pub lying : IsLying s.nodes (fields_at s.shape lie.sender) lie.what
    pub is : IsLie s.nodes s.groups (faulty_sets s) lie

  module _ (lie : Lie) (told : IsTold lie) where
    abbrev fields : Fields
    fields = fields_at s.shape lie.sender

    abbrev who_line : List (List ℕ)
    who_line = hearers s.groups lie.who

    abbrev what_line : List (List ℕ)
    what_line = saying fields lie.what

    abbrev behind : List (List ℕ)
    behind =
        decimal lie.first ∷ decimal lie.last ∷ decimal lie.sender ∷ codes "to"
        ∷ (who_line ++ what_line)

    abbrev said : LieSaid
    said = record {
      first = lie.first;
      last = lie.last;
      sender = lie.sender;
      who = who_said s.groups lie.who;
      what = what_said fields lie.what;
    }

    first_small : lie.first < 10 ^ 15
    first_small = let order = told.is.order in let last = told.is.last in omega (arith, order, last)

    sender_small : lie.sender < 10 ^ 15
    sender_small = let lt = told.sender in omega (arith, few, lt)

    line_is : IsLineOf kind.Lie (lie_line s.groups s.shape lie) behind
    line_is =
        let bytes = fits lie.sender told.sender in
        let lie_short = number_short lie.first first_small in
        let last_short = number_short lie.last told.is.last in
        let sender_short = id_short s.nodes few lie.sender told.sender in
        let heard = who_short s.nodes few s.groups are lie.who told.is.who in
        let what = what_short s.nodes few fields (limited lie.sender) bytes.0 bytes.1 lie.what
        told.lying told.is.what in
        let both = length_both who_line what_line in
        record {
          plain = (
            record { some = omega arith; above = refl },
            (
              number_plain lie.first first_small,
              (
                number_plain lie.last told.is.last,
                (
                  number_plain lie.sender sender_small,
                  (
                    record { some = omega arith; above = refl },
                    plain_both who_line what_line
                        (who_plain s.nodes few s.groups are lie.who told.is.who)
                        (what_plain s.nodes few fields (limited lie.sender) bytes.0 bytes.1
                        lie.what told.lying told.is.what),
                  ),
                ),
              ),
            ),
          );
          short = omega (arith, lie_short, last_short, sender_short, heard, what, both);
          counted = line_counts 108 (codes "ie") behind refl;
          kind = refl;
        }

    words_are : lie_words behind ≡ Some said
    words_are =
        let bytes = fits lie.sender told.sender in
        let words = who_line ++ what_line in
        let last = number_of (decimal lie.last) in
        let sender = number_of (decimal lie.sender) in
        ap (λ (a : Option ℕ). with_numbers a last sender words) (number_read lie.first first_small)
        ∙ ap (λ (b : Option ℕ). with_numbers (Some lie.first) b sender words)
        (number_read lie.last told.is.last)
        ∙ ap (λ (u : Option ℕ). with_numbers (Some lie.first) (Some lie.last) u words)
        (number_read lie.sender sender_small)
        ∙ ap (with_who lie.first lie.last lie.sender)
        (who_read s.nodes few s.groups are lie.who told.is.who what_line)
        ∙ ap (with_what lie.first lie.last lie.sender (who_said s.groups lie.who))
        (what_read s.nodes few fields (limited lie.sender) bytes.0 bytes.1 lie.what told.lying
        told.is.what)

    ids_are : are_ids s.nodes (faulty_sets s) said ≡ true
    ids_are =
        let bytes = fits lie.sender told.sender in
        rw (
          lt-ltb lie.sender s.nodes told.sender,
          told.is.faulty,
          who_is_below s.nodes few s.groups are lie.who told.is.who,
          what_is_below s.nodes few fields (limited lie.sender) bytes.0 bytes.1 lie.what told.lying,
        ) refl

    lie_step : (done : List Lie) → length done < 256
        → lie_tested (with_lies done) (lie_words behind) ≡ Ok (with_lies (done ++ lie ∷ []))
    lie_step done room =
        let bytes = fits lie.sender told.sender in
        ap (lie_tested (with_lies done)) words_are
        ∙ lie_passes (with_lies done) said lie.what lie.who (lt-leb 256 (length done) room) ids_are
        (le-ltb lie.last lie.first told.is.order)
        (who_in_order s.nodes few s.groups are lie.who told.is.who)
        (what_meant s.nodes few fields (limited lie.sender) bytes.0 bytes.1 lie.what told.lying)
        (who_meant s.nodes few s.groups are lie.who told.is.who)

    lie_leads : (last : Option Kind) → IsLied last → (done : List Lie) → length done < 256
        → GoesTo f IsLied (at f last (with_lies done)) (lie_line s.groups s.shape lie ∷ [])
        (with_lies (done ++ lie ∷ []))
    lie_leads last may done room = record {
      last = Some kind.Lie;
      so = record { lie = refl; rounds = refl };
      lead = lead_line f last (with_lies done) (with_lies (done ++ lie ∷ [])) kind.Lie
          (lie_line s.groups s.shape lie) behind line_is may.lie (lie_step done room) refl;
    }

  -- all lies
  pub lies_lead : (last : Option Kind) → IsLied last → (done more : List Lie)
      → length (done ++ more) ≤ 256 → All IsTold (done ++ more)
      → GoesTo f IsLied (at f last (with_lies done)) (map (lie_line s.groups s.shape) more)
      (with_lies (done ++ more))
  lies_lead last may done [] many told = record {
    last = last;
    so = may;
    lead = rw (append-nil done) (lead_none (at f last (with_lies done)));
  }
  lies_lead last may done (lie ∷ more) many told =
      let next : (done ++ lie ∷ []) ++ more ≡ done ++ lie ∷ more =
      append_assoc done (lie ∷ []) more in
      let long = length-append done (lie ∷ more) in
      rw (← next) (goes_then f IsLied IsLied (at f last (with_lies done))
      (with_lies (done ++ lie ∷ [])) (with_lies ((done ++ lie ∷ []) ++ more))
      (lie_line s.groups s.shape lie ∷ []) (map (lie_line s.groups s.shape) more)
      (lie_leads lie (at_middle IsTold done more lie told) last may done
      (omega (arith, many, long)))
      (λ onward so. lies_lead onward so (done ++ lie ∷ []) more
      (subst (λ (lies : List Lie). length lies ≤ 256) (sym next) many)
      (subst (All IsTold) (sym next) told)))
