-- The text of a script is read as this script.
use Rattle.std.proofs.Common.{◌≡◌, ℕ, suc, ◌+◌, ◌<◌, ◌≤◌, false, List, [], ◌∷◌, ◌++◌, length}
use Rattle.std.proofs.Common.{map, get_or, Option, Some, None, Ok, refl, sym, ap, subst, ◌∙◌}
use Rattle.std.proofs.Common.{arith, All, inl, inr, nat_lt}
use Rattle.std.specs.Prelude.{decimal, codes}
use Rattle.std.specs.List.{flat_map}
use Rattle.std.proofs.lemmas.Bool.{le-ltb, cases_lt}
use Rattle.std.proofs.lemmas.List.{append-nil, length-map, get_or-map}
use Rattle.std.proofs.lemmas.List.Elements.{All-head}
use Rattle.texts.specs.Lines.{lines_of}
use Rattle.texts.proofs.NumberLines.{number_plain, number_short, number_read}
use Rattle.state_codec.specs.Shapes.{Shape, IsShape, IsFields, fields_at, bytes_in}
use Rattle.state_codec.proofs.Lows.{fields_limited}
use Rattle.adversary_script.specs.declared.kinds.Kind.{Kind}
use Rattle.adversary_script.specs.declared.kinds.Kind.TheVariants as kind
use Rattle.adversary_script.specs.declared.lies.Start.{Start}
use Rattle.adversary_script.specs.Scripts.{Era, Script, empty_script, firsts, faulty_sets}
use Rattle.adversary_script.specs.Scripts.{most_rounds}
use Rattle.adversary_script.specs.FaultySteps.{last_first}
use Rattle.adversary_script.specs.Steps.{rounds_tested, show_tested}
use Rattle.adversary_script.specs.ScriptPart.{ScriptSoFar, nothing_read, part_for, alone}
use Rattle.adversary_script.specs.ScriptPart.{script_for, IsTolerated}
use Rattle.adversary_script.specs.ScriptTexts.{version_line, faulty_line, seed_lines, common_line}
use Rattle.adversary_script.specs.ScriptTexts.{start_line, era_lines, group_line, lie_line}
use Rattle.adversary_script.specs.ScriptTexts.{rounds_line, show_line, head_lines, eras_lines}
use Rattle.adversary_script.specs.ScriptTexts.{lies_lines, last_lines, script_lines, script_text}
use Rattle.adversary_script.specs.Writable.{FitsLines, AreStarts, IsWritableFor}
use Rattle.adversary_script.specs.ScriptLaws.{ScriptTextIsRead, ScriptTextIsWhole}
use Rattle.adversary_script.proofs.EraLists.{last_is}
use Rattle.adversary_script.proofs.ReadOn.{read_on, End, IsLineOf, line_counts, lead_then, lead_end}
use Rattle.adversary_script.proofs.ReadOn.{lead_line, at}
use Rattle.adversary_script.proofs.ReadOn.{end_here, GoesTo, goes_then, goes_end}
use Rattle.adversary_script.proofs.WrittenHead.{IsStarted, version_leads, faulty_leads, seed_leads}
use Rattle.adversary_script.proofs.WrittenStarts.{IsOpen, starts_lead}
use Rattle.adversary_script.proofs.WrittenEras.{IsEra, eras_lead}
use Rattle.adversary_script.proofs.WrittenGroups.{IsGrouped, groups_lead}
use Rattle.adversary_script.proofs.WrittenLies.{IsLied, IsTold, lies_lead}

-- ---- what is played, and shown of it

rounds_passes : (s : Script) (r : ℕ) → nat_lt most_rounds r ≡ false → nat_lt r (last_first s)
    ≡ false
    → rounds_tested s (Some (r ∷ [])) ≡ Ok (record s { rounds = r; first = 0; last = 0 })
rounds_passes s r few reach = rw (few, reach) refl

show_passes : (s : Script) (a b : ℕ) → nat_lt b a ≡ false → nat_lt s.rounds b ≡ false
    → show_tested s (Some (a ∷ b ∷ [])) ≡ Ok (record s { first = a; last = b })
show_passes s a b order shown = rw (order, shown) refl

module _ (f : ℕ) (s : Script) (rounds first last : ℕ) (few : rounds ≤ most_rounds)
    (reach : last_first s ≤ rounds) (order : first ≤ last) (shown : last ≤ rounds) where
  abbrev played : Script
  played = record s { rounds = rounds; first = 0; last = 0 }

  abbrev over : Script
  over = record s { rounds = rounds; first = first; last = last }

  rounds_is : IsLineOf kind.Rounds (rounds_line rounds) (decimal rounds ∷ [])
  rounds_is = record {
    plain = (
      record { some = omega arith; above = refl },
      (number_plain rounds (omega (arith, few)), tt),
    );
    short = omega (arith, number_short rounds (omega (arith, few)));
    counted = line_counts 114 (codes "ounds") (decimal rounds ∷ []) refl;
    kind = refl;
  }

  show_is : IsLineOf kind.Show (show_line first last) (decimal first ∷ decimal last ∷ [])
  show_is = record {
    plain = (
      record { some = omega arith; above = refl },
      (
        number_plain first (omega (arith, few, order, shown)),
        (number_plain last (omega (arith, few, shown)), tt),
      ),
    );
    short = omega (
      arith,
      number_short first (omega (arith, few, order, shown)),
      number_short last (omega (arith, few, shown)),
    );
    counted = line_counts 115 (codes "how") (decimal first ∷ decimal last ∷ []) refl;
    kind = refl;
  }

  rounds_numbers : rounds_tested s (Some (rounds ∷ [])) ≡ Ok played
  rounds_numbers =
      rounds_passes s rounds (le-ltb most_rounds rounds few) (le-ltb rounds (last_first s) reach)

  show_numbers : show_tested played (Some (first ∷ last ∷ [])) ≡ Ok over
  show_numbers =
      show_passes played first last (le-ltb last first order) (le-ltb rounds last shown)

  last_ends : (k : Option Kind) → IsLied k
      → End (at f k s) (rounds_line rounds ∷ show_line first last ∷ (codes "end" ∷ []) ∷ []) over
  last_ends k may =
      let rounds_there = lead_line f k s played kind.Rounds (rounds_line rounds)
      (decimal rounds ∷ []) rounds_is may.rounds
      (rw (number_read rounds (omega (arith, few))) rounds_numbers) refl in
      let show_there = lead_line f (Some kind.Rounds) played over kind.Show (show_line first last)
      (decimal first ∷ decimal last ∷ []) show_is refl
      (rw (
        number_read first (omega (arith, few, order, shown)),
        number_read last (omega (arith, few, shown)),
      ) show_numbers) refl in
      lead_end (at f k s) (at f (Some kind.Rounds) played) over (rounds_line rounds ∷ [])
      (show_line first last ∷ (codes "end" ∷ []) ∷ []) rounds_there
      (lead_end (at f (Some kind.Rounds) played) (at f (Some kind.Show) over) over
      (show_line first last ∷ []) ((codes "end" ∷ []) ∷ []) show_there (end_here f over))

-- ---- all lines

grouped : (last : Option Kind) → IsStarted last → IsGrouped last
grouped last may = record { group = may.group; lie = may.lie; rounds = may.rounds }

lied : (last : Option Kind) → IsGrouped last → IsLied last
lied last may = record { lie = may.lie; rounds = may.rounds }

module _ (n f : ℕ) (few_nodes : n ≤ 256) (sound_shape : Shape) (sound : IsShape sound_shape)
    (fits_shape : FitsLines n sound_shape) (s : Script) (w : IsWritableFor n f sound_shape s) where
  few : s.nodes ≤ 256
  few = let nodes = w.for.nodes in omega (arith, nodes, few_nodes)

  limited : (v : ℕ) → IsFields (fields_at s.shape v)
  limited v = fields_limited s.shape v (subst IsShape (sym w.for.states) sound)

  fits_nodes : (v : ℕ) → v < n → (1 ≤ bytes_in (fields_at s.shape v))
      × (bytes_in (fields_at s.shape v) ≤ 2000)
  fits_nodes = subst (FitsLines n) (sym w.for.states) fits_shape

  fits : (v : ℕ) → v < s.nodes → (1 ≤ bytes_in (fields_at s.shape v))
      × (bytes_in (fields_at s.shape v) ≤ 2000)
  fits v lt = let nodes = w.for.nodes in fits_nodes v (omega (arith, nodes, lt))

  abbrev begun : Script
  begun = record (empty_script s.nodes s.shape) { version = s.version; faulty = s.faulty }

  abbrev headed : Script
  headed = record begun { key = s.key; common = s.common }

  abbrev with_starts : List Start → Script
  with_starts starts = record headed { starts = starts }

  abbrev with_eras : List Era → Script
  with_eras eras = record headed { starts = s.starts; eras = eras }

  abbrev grouped_so : Script
  grouped_so = record headed { starts = s.starts; eras = s.eras; groups = s.groups }

  abbrev told_so : Script
  told_so = record headed {
    starts = s.starts;
    eras = s.eras;
    groups = s.groups;
    lies = s.lies;
  }

  head_goes : GoesTo f IsStarted (at f None (empty_script s.nodes s.shape)) (head_lines s) headed
  head_goes =
      let nothing = empty_script s.nodes s.shape in
      let first : Script = record nothing { version = s.version } in
      let borne = All-head (IsTolerated n f) s.faulty _ w.for.borne in
      let below = All-head (All (λ id. id < s.nodes)) s.faulty _ w.whole.formed.ids in
      let seed = seed_leads f begun refl s.key w.key s.common in
      record {
        last = seed.last;
        so = seed.so;
        lead =
            lead_then (at f None nothing) (at f (Some kind.Script) first) (at f seed.last headed)
            (version_line s.version ∷ [])
            (faulty_line s.faulty ∷ (seed_lines s.key ++ common_line s.common ∷ []))
            (version_leads f nothing s.version w.oldest w.newest)
            (lead_then (at f (Some kind.Script) first) (at f (Some kind.Faulty) begun)
            (at f seed.last headed) (faulty_line s.faulty ∷ [])
            (seed_lines s.key ++ common_line s.common ∷ [])
            (faulty_leads f first few s.faulty borne.rising below borne.few) seed.lead);
      }

  starts_open : IsOpen with_starts s.nodes s.shape
  starts_open = record {
    nodes = λ xs. refl;
    shape = λ xs. refl;
    starts = λ xs. refl;
    adds = λ xs x. refl;
  }

  eras_are : All (IsEra n f s.shape few_nodes fits_nodes limited) s.eras
  eras_are k d lt =
      let inside : suc k < length (faulty_sets s) =
      omega (arith, lt, length-map s.eras (λ (era : Era). era.faulty)) in
      let begins : suc k < length (firsts s) =
      omega (arith, lt, length-map s.eras (λ (era : Era). era.first)) in
      let most = w.whole.within (suc k) 0 begins in
      let rounds = w.whole.formed.few in
      record {
        borne = subst (IsTolerated n f) (get_or-map (λ (era : Era). era.faulty) s.eras k d [] lt)
            (w.for.borne (suc k) [] inside);
        small = omega (
          arith,
          most,
          rounds,
          get_or-map (λ (era : Era). era.first) s.eras k d 0 lt,
        );
        starts = subst (λ n. AreStarts n (get_or s.eras k d).starts) w.for.nodes (w.hits k d lt);
        range = w.whole.formed.hits k d lt;
      }

  -- if there are further eras, the version is 2
  newer : 0 < length s.eras → s.version ≡ 2
  newer some =
      let old = w.oldest in
      let new = w.newest in
      elim (cases_lt s.version 2) [
        | inl lt ↦
            let none = ap length (w.eras (omega (arith, old, lt))) in
            absurd (omega (arith, none, some))
        | inr le ↦ omega (arith, le, new)
      ]

  eras_go : (last : Option Kind) → IsStarted last
      → GoesTo f IsStarted (at f last headed) (eras_lines s) (with_eras s.eras)
  eras_go last may =
      goes_then f IsStarted IsStarted (at f last headed) (with_eras []) (with_eras s.eras)
      (map (start_line s.shape) s.starts) (flat_map (era_lines s.shape) s.eras)
      (starts_lead f s.nodes s.shape few fits limited with_starts starts_open last may [] s.starts
      w.starts w.whole.formed.starts)
      (λ next so. eras_lead n f s.shape few_nodes fits_nodes limited (with_eras []) w.for.nodes refl
      next so [] s.eras w.whole.formed.many newer w.whole.formed.rising eras_are)

  lies_are : All (IsTold f grouped_so few w.groups fits limited) s.lies
  lies_are k d lt = record {
    sender = w.whole.formed.senders k d lt;
    lying = w.whole.formed.lies k d lt;
    is = w.lies k d lt;
  }

  lies_go : (last : Option Kind) → IsStarted last
      → GoesTo f IsLied (at f last (with_eras s.eras)) (lies_lines s) told_so
  lies_go last may =
      goes_then f IsGrouped IsLied (at f last (with_eras s.eras)) grouped_so told_so
      (map group_line s.groups) (map (lie_line s.groups s.shape) s.lies)
      (groups_lead f (with_eras s.eras) few last (grouped last may) [] s.groups w.groups)
      (λ next so. lies_lead f grouped_so few w.groups fits limited next (lied next so) [] s.lies
      w.many lies_are)

  -- the last era begins within the rounds
  reached : last_first s ≤ s.rounds
  reached =
      let last = last_is 0 s.eras in
      let inside : length s.eras < length (firsts s) =
      omega (arith, length-map s.eras (λ (era : Era). era.first)) in
      let within = w.whole.within (length s.eras) 0 inside in
      omega (arith, last, within)

  pub is_read : End (at f None (empty_script s.nodes s.shape)) (script_lines s) s
  is_read =
      let formed = w.whole.formed in
      goes_end f IsStarted (at f None (empty_script s.nodes s.shape)) headed s (head_lines s)
      (eras_lines s ++ (lies_lines s ++ last_lines s)) head_goes (λ last so.
      goes_end f IsStarted (at f last headed) (with_eras s.eras) s (eras_lines s)
      (lies_lines s ++ last_lines s) (eras_go last so) (λ next onward.
      goes_end f IsLied (at f next (with_eras s.eras)) told_so s (lies_lines s) (last_lines s)
      (lies_go next onward) (λ k may.
      last_ends f told_so s.rounds s.first s.last formed.few reached formed.order formed.shown k
      may)))

  start_is : nothing_read n f sound_shape
      ≡ at f None (empty_script s.nodes s.shape)
  start_is =
      ap (λ n. nothing_read n f sound_shape) (sym w.for.nodes)
      ∙ ap (λ (shape : Shape). nothing_read s.nodes f shape) (sym w.for.states)

pub script_text_is_read : ScriptTextIsRead
script_text_is_read n f few shape sound fits s w number rest =
    let count : 0 + length (script_lines s) ≡ length (script_lines s) = omega arith in
    ap (λ (start : ScriptSoFar). read_on start 0 number (script_text s ++ rest))
    (start_is n f few shape sound fits s w)
    ∙ is_read n f few shape sound fits s w 0 number rest
    ∙ rw count refl

pub script_text_is_whole : ScriptTextIsWhole
unfolding script_for
script_text_is_whole n f few shape sound fits s w number =
    ap (λ text. alone number (part_for n f shape number (lines_of text)))
    (sym (append-nil (script_text s)))
    ∙ ap (alone number) (script_text_is_read n f few shape sound fits s w number [])
