-- The text of a line, word by word.
use Rattle.std.proofs.Common.{◌≡◌, ℕ, Bool, true, false, cond, List, [], ◌∷◌, ◌++◌, map, filter}
use Rattle.std.proofs.Common.{decimal, codes, Option, Some, None, eqb, refl, sym, ap, ap₂, ◌∙◌}
use Rattle.std.proofs.Common.{append_assoc, append-nil}
use Rattle.std.proofs.lemmas.Grind.{flat_map-append}
use Rattle.std.specs.List.{concat, flat_map, range_with_len}
use Rattle.sync_types.specs.States.{State}
use Rattle.construction.specs.Plans.{Level, Plan, plan_nodes, plan_depth}
use Rattle.construction.specs.Shown.{shown}
use Rattle.construction.specs.Steps.{state_of}
use Rattle.construction.specs.Runs.{is_in}
use Rattle.texts.specs.Words.{joined, ended}
use Rattle.run_checker.specs.Items.{Item, run_item, base_item, level_item, faulty_item}
use Rattle.run_checker.specs.Items.{start_item, row_item, lie_item, era_item, row_word}
use Rattle.run_checker.specs.Items.{item_line}
use Rattle.run_checker.specs.Certificates.{level_of}
use Rattle.run_checker.specs.RunLines.{number_word, version_line, base_line, level_line, node_word}
use Rattle.run_checker.specs.RunLines.{row_text, faulty_text, era_text}

-- words, each after a space, to the end of a line
abbrev pub spaced : List (List ℕ) → List ℕ
spaced [] = 10 ∷ []
spaced (w ∷ ws) = 32 ∷ (w ++ spaced ws)

abbrev pub line_of : Item → List ℕ
line_of item = ended (item_line item)

-- a line is its first word and the others
pub line_text : (w : List ℕ) (ws : List (List ℕ)) → ended (joined (w ∷ ws)) ≡ w ++ spaced ws
line_text w [] = refl
line_text w (v ∷ vs) =
    append_assoc w (32 ∷ joined (v ∷ vs)) (10 ∷ []) ∙ ap (λ l. w ++ (32 ∷ l)) (line_text v vs)

pub version_is : (v : ℕ) → version_line v ≡ line_of (run_item v)
version_is v = sym (line_text (codes "run") (decimal v ∷ []))

pub base_is : (b : ℕ) → base_line b ≡ line_of (base_item b)
base_is b = sym (line_text (codes "base") (decimal b ∷ []))

-- ---- levels

level_by : (v : Bool) (k f c s : ℕ)
    → concat
    (concat (codes "level " ∷ decimal k ∷ codes " " ∷ decimal f ∷ codes " " ∷ decimal c ∷ [])
    ∷ cond v (concat (codes " spare " ∷ decimal s ∷ codes "\n" ∷ [])) (codes "\n") ∷ [])
    ≡ line_of (level_item k f c (cond v (Some s) None))
level_by true k f c s =
    parted k f c (concat (codes " spare " ∷ decimal s ∷ codes "\n" ∷ []))
    ∙ sym
    (line_text (codes "level")
    (decimal k ∷ decimal f ∷ decimal c ∷ codes "spare" ∷ decimal s ∷ []))
  where
    parted : (k f c : ℕ) (end : List ℕ)
        → concat
        (concat
        (codes "level " ∷ decimal k ∷ codes " " ∷ decimal f ∷ codes " " ∷ decimal c ∷ [])
        ∷ end ∷ [])
        ≡ codes "level " ++ (decimal k ++ (32 ∷ (decimal f ++ (32 ∷ (decimal c ++ end)))))
    parted k f c end =
        ap (λ l. codes "level " ++ l)
        (append_assoc (decimal k) (32 ∷ (decimal f ++ (32 ∷ (decimal c ++ [])))) (end ++ [])
        ∙ ap (λ l. decimal k ++ (32 ∷ l))
        (append_assoc (decimal f) (32 ∷ (decimal c ++ [])) (end ++ [])
        ∙ ap (λ l. decimal f ++ (32 ∷ l))
        (ap (λ l. l ++ (end ++ [])) (append-nil (decimal c))
        ∙ ap (λ l. decimal c ++ l) (append-nil end))))
level_by false k f c s =
    parted k f c (codes "\n")
    ∙ sym (line_text (codes "level") (decimal k ∷ decimal f ∷ decimal c ∷ []))
  where
    parted : (k f c : ℕ) (end : List ℕ)
        → concat
        (concat
        (codes "level " ∷ decimal k ∷ codes " " ∷ decimal f ∷ codes " " ∷ decimal c ∷ [])
        ∷ end ∷ [])
        ≡ codes "level " ++ (decimal k ++ (32 ∷ (decimal f ++ (32 ∷ (decimal c ++ end)))))
    parted k f c end =
        ap (λ l. codes "level " ++ l)
        (append_assoc (decimal k) (32 ∷ (decimal f ++ (32 ∷ (decimal c ++ [])))) (end ++ [])
        ∙ ap (λ l. decimal k ++ (32 ∷ l))
        (append_assoc (decimal f) (32 ∷ (decimal c ++ [])) (end ++ [])
        ∙ ap (λ l. decimal f ++ (32 ∷ l))
        (ap (λ l. l ++ (end ++ [])) (append-nil (decimal c))
        ∙ ap (λ l. decimal c ++ l) (append-nil end))))

pub level_is : (version : ℕ) (level : Level)
    → level_line version level ≡ line_of (level_of version level)
level_is version level =
    level_by (eqb version 3) level.blocks level.faults level.modulus level.spares

-- ---- ids

ids_spaced : (ids : List ℕ) → flat_map number_word ids ++ 10 ∷ [] ≡ spaced (map decimal ids)
ids_spaced [] = refl
ids_spaced (id ∷ ids) =
    append_assoc (number_word id) (flat_map number_word ids) (10 ∷ [])
    ∙ ap (λ l. 32 ∷ (l ++ (flat_map number_word ids ++ 10 ∷ []))) (append-nil (decimal id))
    ∙ ap (λ l. 32 ∷ (decimal id ++ l)) (ids_spaced ids)

pub faulty_is : (ids : List ℕ) → faulty_text ids ≡ line_of (faulty_item ids)
faulty_is ids =
    ap (λ l. codes "faulty" ++ l) (ids_spaced ids)
    ∙ sym (line_text (codes "faulty") (map decimal ids))

-- a key and a number before more
numbered : (key : List ℕ) (t : ℕ) (more : List ℕ)
    → (key ++ (decimal t ++ [])) ++ more ≡ key ++ (decimal t ++ more)
numbered key t more =
    append_assoc key (decimal t ++ []) more ∙ ap (λ l. key ++ (l ++ more)) (append-nil (decimal t))

pub era_is : (t : ℕ) (ids : List ℕ) → era_text t ids ≡ line_of (era_item t ids)
era_is t ids =
    numbered (codes "era ") t (flat_map number_word ids ++ 10 ∷ [])
    ∙ ap (λ l. codes "era " ++ (decimal t ++ l)) (ids_spaced ids)
    ∙ sym (line_text (codes "era") (decimal t ∷ map decimal ids))

-- ---- rows

module _ (plan : Plan) (faulty : List ℕ) (config : List State) where
  abbrev shown_of : ℕ → Option ℕ
  shown_of v = cond (is_in faulty v) None (Some (shown (plan_depth plan) (state_of config v)))

  word_is : (bad : Bool) (n : ℕ) (more : List ℕ) → cond bad (codes " *") (number_word n) ++ more
      ≡ 32 ∷ (row_word (cond bad None (Some n)) ++ more)
  word_is true n more = refl
  word_is false n more = ap (λ l. 32 ∷ (l ++ more)) (append-nil (decimal n))

  row_spaced : (vs : List ℕ)
      → flat_map (node_word plan faulty config) vs ++ 10 ∷ []
      ≡ spaced (map row_word (map shown_of vs))
  row_spaced [] = refl
  row_spaced (v ∷ vs) =
      append_assoc (node_word plan faulty config v) (flat_map (node_word plan faulty config) vs)
      (10 ∷ [])
      ∙ word_is (is_in faulty v) (shown (plan_depth plan) (state_of config v))
      (flat_map (node_word plan faulty config) vs ++ 10 ∷ [])
      ∙ ap (λ l. 32 ∷ (row_word (shown_of v) ++ l)) (row_spaced vs)

  pub row_is : (t : ℕ)
      → row_text plan faulty t config
      ≡ line_of (row_item t (map shown_of (range_with_len 0 (plan_nodes plan))))
  row_is t =
      numbered (codes "row ") t
      (flat_map (node_word plan faulty config) (range_with_len 0 (plan_nodes plan)) ++ 10 ∷ [])
      ∙ ap (λ l. codes "row " ++ (decimal t ++ l)) (row_spaced (range_with_len 0 (plan_nodes plan)))
      ∙ sym
      (line_text (codes "row")
      (decimal t ∷ map row_word (map shown_of (range_with_len 0 (plan_nodes plan)))))

-- ---- states

pub start_is : (v : ℕ) (digits : List ℕ)
    → concat (codes "start " ∷ decimal v ∷ codes " " ∷ digits ∷ codes "\n" ∷ [])
    ≡ line_of (start_item v digits)
start_is v digits = sym (line_text (codes "start") (decimal v ∷ digits ∷ []))

pub lie_is : (u v : ℕ) (digits : List ℕ)
    → concat
    (codes "lie " ∷ decimal u ∷ codes " " ∷ decimal v ∷ codes " " ∷ digits ∷ codes "\n" ∷ [])
    ≡ line_of (lie_item u v digits)
lie_is u v digits = sym (line_text (codes "lie") (decimal u ∷ decimal v ∷ digits ∷ []))

-- ---- lists of lines

pub kept_lines : {X : Type 0} (p : X → Bool) (line : X → List ℕ) (xs : List X)
    → flat_map line (filter p xs) ≡ flat_map (λ x. cond (p x) (line x) []) xs
kept_lines p line [] = refl
kept_lines p line (x ∷ xs) = by (p x) (kept_lines p line xs) where
  by : (b : Bool) → flat_map line (filter p xs) ≡ flat_map (λ x. cond (p x) (line x) []) xs
      → flat_map line (cond b (x ∷ filter p xs) (filter p xs))
      ≡ cond b (line x) [] ++ flat_map (λ x. cond (p x) (line x) []) xs
  by true more = ap (λ l. line x ++ l) more
  by false more = more

pub same_lines : {X : Type 0} (f g : X → List ℕ) → ((x : X) → f x ≡ g x) → (xs : List X)
    → flat_map f xs ≡ flat_map g xs
same_lines f g same [] = refl
same_lines f g same (x ∷ xs) = ap₂ (λ a b. a ++ b) (same x) (same_lines f g same xs)

pub nested_lines : {X Y : Type 0} (line : Y → List ℕ) (g : X → List Y) (xs : List X)
    → flat_map line (flat_map g xs) ≡ flat_map (λ x. flat_map line (g x)) xs
nested_lines line g [] = refl
nested_lines line g (x ∷ xs) =
    flat_map-append line (g x) (flat_map g xs)
    ∙ ap (λ l. flat_map line (g x) ++ l) (nested_lines line g xs)
