-- The words of a row, one by one, and the row that they say.
use Rattle.std.proofs.Common.{◌≡◌, ℕ, zero, suc, ◌+◌, ◌-◌, ◌<◌, ◌≤◌, Bool, true, false, cond, not}
use Rattle.std.proofs.Common.{◌&&◌, List, [], ◌∷◌, map, nat_eq, Option, Some, None, refl, sym, ap}
use Rattle.std.proofs.Common.{◌∙◌, arith}
use Rattle.std.specs.Option.{is_some}
use Rattle.std.specs.List.{range_with_len}
use Rattle.sync_types.specs.States.{State}
use Rattle.sync_types.specs.FaultSets.{is_in}
use Rattle.construction.specs.Shown.{shown}
use Rattle.construction.specs.Steps.{state_of}
use Rattle.run_checker.specs.Items.{value_said, values_said, onto}
use Rattle.run_checker.specs.Stated.{same_rows}
use Rattle.run_checker.specs.Checking.{same_marks}
use Rattle.run_checker.specs.Rows.{shown_at, compared_from, row_compared, value_compared}
use Rattle.run_checker.specs.Rows.{word_compared, behind_word, words_compared}

-- with what came before
abbrev with_same : Bool → Option Bool → Option Bool
with_same same None = None
with_same same (Some now) = Some (same && now)

and_all : (a b c : Bool) → ((a && b) && c) ≡ (a && (b && c))
and_all true b c = refl
and_all false b c = refl

and_true : (a : Bool) → a ≡ (a && true)
and_true true = refl
and_true false = refl

with_both : (a b : Bool) (o : Option Bool) → with_same (a && b) o ≡ with_same a (with_same b o)
with_both a b None = refl
with_both a b (Some c) = ap Some (and_all a b c)

module _ (depth : ℕ) (faulty : List ℕ) (config : List State) where
  -- what the words of the nodes from v on come to
  abbrev from : (v m : ℕ) → Option (List (Option ℕ)) → Option Bool
  from v m None = None
  from v m (Some row) = compared_from depth faulty config v m row

  -- one value before a row
  one_more : (x : Option ℕ) (bad : Bool) (v m : ℕ) (row : List (Option ℕ))
      → cond
      (same_marks (is_some x ∷ map is_some row)
      (not bad ∷ map (λ u. not (is_in faulty u)) (range_with_len (v + 1) m)))
      (Some
      (same_rows (x ∷ row)
      (cond bad None (Some (shown depth (state_of config v)))
      ∷ map (shown_at depth faulty config) (range_with_len (v + 1) m))))
      None
      ≡ behind_word (value_compared x (cond bad None (Some (shown depth (state_of config v)))))
      (λ now. with_same now (compared_from depth faulty config (v + 1) m row))
  one_more None true v m row = by (compared_from depth faulty config (v + 1) m row) where
    by : (o : Option Bool) → o ≡ with_same true o
    by None = refl
    by (Some b) = refl
  one_more None false v m row = refl
  one_more (Some a) true v m row = refl
  one_more (Some a) false v m row =
      by (same_marks (map is_some row) (map (λ u. not (is_in faulty u)) (range_with_len (v + 1) m)))
    where
      by : (b : Bool)
          → cond b
          (Some
          (nat_eq a (shown depth (state_of config v))
          && same_rows row (map (shown_at depth faulty config) (range_with_len (v + 1) m))))
          None
          ≡ with_same (nat_eq a (shown depth (state_of config v)))
          (cond b
          (Some
          (same_rows row (map (shown_at depth faulty config) (range_with_len (v + 1) m))))
          None)
      by true = refl
      by false = refl

  none_behind : (o : Option Bool) (f : Bool → Option Bool) → ((b : Bool) → f b ≡ None)
      → behind_word o f ≡ None
  none_behind None f none = refl
  none_behind (Some b) f none = none b

  same_behind : (o : Option Bool) (f g : Bool → Option Bool) → ((b : Bool) → f b ≡ g b)
      → behind_word o f ≡ behind_word o g
  same_behind None f g same = refl
  same_behind (Some b) f g same = same b

  -- the words from one on
  next_word : (said : Option (Option ℕ)) (row : Option (List (Option ℕ))) (v m : ℕ) (same : Bool)
      (f : Bool → Option Bool)
      → ((now : Bool) → f now ≡ with_same (same && now) (from (v + 1) m row))
      → behind_word (word_compared said (shown_at depth faulty config v)) f
      ≡ with_same same (from v (suc m) (onto said row))
  next_word None row v m same f is = refl
  next_word (Some x) None v m same f is =
      none_behind (value_compared x (shown_at depth faulty config v)) f is
  next_word (Some x) (Some row) v m same f is =
      same_behind (value_compared x (shown_at depth faulty config v)) f
      (λ now. with_same same (with_same now (from (v + 1) m (Some row))))
      (λ now. is now ∙ with_both same now (from (v + 1) m (Some row)))
      ∙ out (value_compared x (shown_at depth faulty config v))
      ∙ ap (with_same same) (sym (one_more x (is_in faulty v) v m row)) where
        out : (o : Option Bool)
            → behind_word o (λ now. with_same same (with_same now (from (v + 1) m (Some row))))
            ≡ with_same same (behind_word o (λ now. with_same now (from (v + 1) m (Some row))))
        out None = refl
        out (Some b) = refl

  too_many : (said : Option (Option ℕ)) (row : Option (List (Option ℕ))) (v : ℕ) (same : Bool)
      → None ≡ with_same same (from v zero (onto said row))
  too_many None row v same = refl
  too_many (Some x) None v same = refl
  too_many (Some None) (Some row) v same = refl
  too_many (Some (Some a)) (Some row) v same = refl

  words_row : (v m : ℕ) (same : Bool) (words : List (List ℕ))
      → words_compared depth faulty config v m same words
      ≡ with_same same (from v m (values_said words))
  words_row v zero same [] = ap Some (and_true same)
  words_row v zero same (w ∷ ws) = too_many (value_said w) (values_said ws) v same
  words_row v (suc m) same [] = refl
  words_row v (suc m) same (w ∷ ws) =
      next_word (value_said w) (values_said ws) v m same
      (λ now. words_compared depth faulty config (v + 1) m (same && now) ws)
      (λ now. words_row (v + 1) m (same && now) ws)

  true_only : (o : Option Bool) → with_same true o ≡ o
  true_only None = refl
  true_only (Some b) = refl

  from_row : (n : ℕ) (row : Option (List (Option ℕ)))
      → from 0 n row ≡ row_compared depth faulty config n row
  from_row n None = refl
  from_row n (Some row) = refl

  -- the words of all nodes
  pub all_words : (n : ℕ) (words : List (List ℕ))
      → words_compared depth faulty config 0 n true words
      ≡ row_compared depth faulty config n (values_said words)
  all_words n words =
      words_row 0 n true words ∙ true_only (from 0 n (values_said words))
      ∙ from_row n (values_said words)

  -- one word of them
  pub one_word : (v n : ℕ) (same : Bool) (w : List ℕ) (ws : List (List ℕ)) → v < n
      → words_compared depth faulty config v (n - v) same (w ∷ ws)
      ≡ behind_word (word_compared (value_said w) (shown_at depth faulty config v))
      (λ now. words_compared depth faulty config (v + 1) (n - (v + 1)) (same && now) ws)
  one_word v n same w ws lt = let more : n - v ≡ suc (n - (v + 1)) = omega arith in rw more refl

  pub no_word : (v n : ℕ) (same : Bool) → v < n
      → words_compared depth faulty config v (n - v) same [] ≡ None
  no_word v n same lt = let more : n - v ≡ suc (n - (v + 1)) = omega arith in rw more refl

  pub last_word : (v n : ℕ) (same : Bool) → n - v ≡ 0
      → words_compared depth faulty config v (n - v) same [] ≡ Some same
  last_word v n same none = rw none refl

  pub word_behind : (v n : ℕ) (same : Bool) (w : List ℕ) (ws : List (List ℕ)) → n - v ≡ 0
      → words_compared depth faulty config v (n - v) same (w ∷ ws) ≡ None
  word_behind v n same w ws none = rw none refl

  module _ (n : ℕ) (words iter : List (List ℕ)) (v : ℕ) (same : Bool)
      (read : words_compared depth faulty config 0 n true words
      ≡ words_compared depth faulty config v (n - v) same iter)
    where
      ends_with : (o : Option Bool) → words_compared depth faulty config v (n - v) same iter ≡ o
          → o ≡ row_compared depth faulty config n (values_said words)
      ends_with o e = sym e ∙ sym read ∙ all_words n words

      pub no_place : (w : List ℕ) (ws : List (List ℕ)) → iter ≡ w ∷ ws → n ≤ v
          → None ≡ row_compared depth faulty config n (values_said words)
      no_place w ws is le =
          ends_with None
          (ap (words_compared depth faulty config v (n - v) same) is
          ∙ word_behind v n same w ws (omega (arith, le)))

      pub no_value : (w : List ℕ) (ws : List (List ℕ)) → iter ≡ w ∷ ws → v < n → value_said w ≡ None
          → None ≡ row_compared depth faulty config n (values_said words)
      no_value w ws is lt said =
          ends_with None
          (ap (words_compared depth faulty config v (n - v) same) is ∙ one_word v n same w ws lt
          ∙ ap
          (λ (o : Option (Option ℕ)). behind_word
          (word_compared o (shown_at depth faulty config v))
          (λ now. words_compared depth faulty config (v + 1) (n - (v + 1)) (same && now) ws)) said)

      one_compared : (w : List ℕ) (ws : List (List ℕ)) (x : Option ℕ) (o : Option Bool)
          → iter ≡ w ∷ ws → v < n
          → value_said w ≡ Some x → value_compared x (shown_at depth faulty config v) ≡ o
          → words_compared depth faulty config v (n - v) same iter
          ≡ behind_word o
          (λ now. words_compared depth faulty config (v + 1) (n - (v + 1)) (same && now) ws)
      one_compared w ws x o is lt said e =
          ap (words_compared depth faulty config v (n - v) same) is ∙ one_word v n same w ws lt
          ∙ ap
          (λ (y : Option (Option ℕ)). behind_word
          (word_compared y (shown_at depth faulty config v))
          (λ now. words_compared depth faulty config (v + 1) (n - (v + 1)) (same && now) ws)) said
          ∙ ap (λ (y : Option Bool). behind_word y
          (λ now. words_compared depth faulty config (v + 1) (n - (v + 1)) (same && now) ws)) e

      pub no_match : (w : List ℕ) (ws : List (List ℕ)) (x : Option ℕ) → iter ≡ w ∷ ws → v < n
          → value_said w ≡ Some x → value_compared x (shown_at depth faulty config v) ≡ None
          → None ≡ row_compared depth faulty config n (values_said words)
      no_match w ws x is lt said e = ends_with None (one_compared w ws x None is lt said e)

      pub goes_on : (w : List ℕ) (ws : List (List ℕ)) (x : Option ℕ) (b : Bool) → iter ≡ w ∷ ws
          → v < n
          → value_said w ≡ Some x → value_compared x (shown_at depth faulty config v) ≡ Some b
          → words_compared depth faulty config 0 n true words
          ≡ words_compared depth faulty config (v + 1) (n - (v + 1)) (same && b) ws
      goes_on w ws x b is lt said e = read ∙ one_compared w ws x (Some b) is lt said e

      pub ends_early : iter ≡ [] → v < n
          → None ≡ row_compared depth faulty config n (values_said words)
      ends_early is lt =
          ends_with None
          (ap (words_compared depth faulty config v (n - v) same) is ∙ no_word v n same lt)

      pub ends_whole : iter ≡ [] → n ≤ v
          → Some same ≡ row_compared depth faulty config n (values_said words)
      ends_whole is le =
          ends_with (Some same)
          (ap (words_compared depth faulty config v (n - v) same) is
          ∙ last_word v n same (omega (arith, le)))
