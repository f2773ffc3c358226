-- Where a node's group stands among the groups, and where in the plan it lies.
use Rattle.std.proofs.Common.{◌≡◌, ℕ, zero, suc, ◌+◌, ◌-◌, ◌*◌, ◌/◌, ◌%◌, ◌<◌, ◌≤◌, cond, List, []}
use Rattle.std.proofs.Common.{◌∷◌, ◌++◌, length, get_or, All, refl, sym, ap, ◌∙◌, subst, ⊎_elim}
use Rattle.std.proofs.Common.{arith}
use Rattle.std.specs.List.{range_with_len, flat_map}
use Rattle.std.proofs.lemmas.Bool.{cases_eq, eq-eqb, ne_eqb}
use Rattle.std.proofs.lemmas.List.{length-append, get_or_append_left, get_or-append_right}
use Rattle.std.proofs.lemmas.List.Elements.{All-cons, All-append, All-weaker}
use Rattle.construction.specs.Plans.{Level, group_size, nodes_of, low_of}
use Rattle.construction.proofs.Blocks.{block_room}
use Rattle.shared_board.specs.Groups.{Group, groups_of, group_count, group_at, index_at, nodes_in}
use Rattle.shared_board.proofs.Descent.{InBlock, in_block, place_inner, block_below, group_top}
use Rattle.shared_board.proofs.Descent.{group_under, parted}

-- lists of one length, one after the other
module _ {A : Type 0} (f : ℕ → List A) (c : ℕ) (long : (i : ℕ) → length (f i) ≡ c) where
  pub length-pieces : (k a : ℕ) → length (flat_map f (range_with_len a k)) ≡ k * c
  length-pieces zero a = omega arith
  length-pieces (suc k) a =
      omega (
        arith,
        length-append (f a)
            (flat_map f (range_with_len (a + 1) k)),
        long a,
        length-pieces k (a + 1),
      )

  -- item j of the i-th
  pub get_or-pieces : (k a i j : ℕ) (d : A) → i < k → j < c
      → get_or (flat_map f (range_with_len a k)) (i * c + j) d ≡ get_or (f (a + i)) j d
  get_or-pieces zero a i j d lt less = absurd (omega arith)
  get_or-pieces (suc k) a zero j d lt less =
      let at : 0 * c + j ≡ j = omega arith in
      let here : a ≡ a + 0 = omega arith in
      ap (λ m. get_or (f a ++ flat_map f (range_with_len (a + 1) k)) m d) at
      ∙ (get_or_append_left (f a) (flat_map f (range_with_len (a + 1) k)) d j
      (omega (arith, long a, less))
      ∙ ap (λ b. get_or (f b) j d) here)
  get_or-pieces (suc k) a (suc i) j d lt less =
      let at : suc i * c + j - c ≡ i * c + j = omega arith in
      let here : a + 1 + i ≡ a + suc i = omega arith in
      get_or-append_right (f a) (flat_map f (range_with_len (a + 1) k)) c (suc i * c + j) d (long a)
      (omega arith)
      ∙ (ap (λ m. get_or (flat_map f (range_with_len (a + 1) k)) m d) at
      ∙ (get_or-pieces k (a + 1) i j d (omega (arith, lt)) less
      ∙ ap (λ b. get_or (f b) j d) here))

-- what holds of each of them holds of all
All-pieces : {A : Type 0} (P : A → Type 0) (f : ℕ → List A) (k a : ℕ)
    → ((i : ℕ) → a ≤ i → i < a + k → All P (f i)) → All P (flat_map f (range_with_len a k))
All-pieces P f zero a each = λ i d lt. absurd (omega (arith, lt))
All-pieces P f (suc k) a each =
    All-append P (f a) (flat_map f (range_with_len (a + 1) k)) (each a (omega arith) (omega arith))
    (All-pieces P f k (a + 1) (λ i le lt. each i (omega arith) (omega arith)))

pub length-groups_of : (levels : List Level) (first : ℕ)
    → length (groups_of levels first) ≡ group_count levels
length-groups_of [] first = refl
length-groups_of (level ∷ below) first =
    omega (
      arith,
      length-pieces (λ b. groups_of below (first + b * nodes_of below))
          (group_count below) (λ b. length-groups_of below (first + b * nodes_of below))
          level.blocks
          0,
    )

-- each group lies within the nodes of the levels
pub groups_within : (levels : List Level) (first : ℕ)
    → All (λ g. g.first + nodes_in g ≤ first + nodes_of levels) (groups_of levels first)
groups_within [] first = λ i d lt. absurd (omega (arith, lt))
groups_within (level ∷ below) first =
    let n : ℕ = nodes_of below in
    let P : Group → Type 0 = λ g. g.first + nodes_in g ≤ first + group_size level n in
    All-cons P (record { level = level; below = length below; block = n; first = first })
    (flat_map (λ b. groups_of below (first + b * n)) (range_with_len 0 level.blocks))
    (omega arith)
    (All-pieces P (λ b. groups_of below (first + b * n)) level.blocks 0 (λ b le lt.
    let room = block_room level.blocks n b (omega (arith, lt)) in
    All-weaker (λ g. g.first + nodes_in g ≤ first + b * n + n) P (λ g h. omega (arith, h, room))
    (groups_of below (first + b * n)) (groups_within below (first + b * n))))

-- each group has fewer levels below it than there are
pub groups_low : (levels : List Level) (first : ℕ)
    → All (λ g. g.below < length levels) (groups_of levels first)
groups_low [] first = λ i d lt. absurd (omega (arith, lt))
groups_low (level ∷ below) first =
    let n : ℕ = nodes_of below in
    let P : Group → Type 0 = λ g. g.below < length (level ∷ below) in
    All-cons P (record { level = level; below = length below; block = n; first = first })
    (flat_map (λ b. groups_of below (first + b * n)) (range_with_len 0 level.blocks))
    (omega arith)
    (All-pieces P (λ b. groups_of below (first + b * n)) level.blocks 0 (λ b le lt.
    All-weaker (λ g. g.below < length below) P (λ g h. omega (arith, h))
    (groups_of below (first + b * n)) (groups_low below (first + b * n))))

index_top : (level : Level) (below : List Level) (place l : ℕ) → l ≡ length below
    → index_at (level ∷ below) place l ≡ 0
index_top level below place l e =
    ap (λ b. cond b 0 (1 + place / nodes_of below * group_count below + index_at below
    (place % nodes_of below) l)) (eq-eqb l (length below) e)

pub index_other : (level : Level) (below : List Level) (place l : ℕ) → (l ≡ length below → ⊥)
    → index_at (level ∷ below) place l
    ≡ 1 + place / nodes_of below * group_count below + index_at below (place % nodes_of below) l
index_other level below place l ne =
    ap (λ b. cond b 0 (1 + place / nodes_of below * group_count below + index_at below
    (place % nodes_of below) l)) (ne_eqb l (length below) ne)

index_under : (level : Level) (below : List Level) (place l : ℕ) → l < length below
    → index_at (level ∷ below) place l
    ≡ 1 + place / nodes_of below * group_count below + index_at below (place % nodes_of below) l
index_under level below place l lt =
    ap (λ b. cond b 0 (1 + place / nodes_of below * group_count below + index_at below
    (place % nodes_of below) l))
    (ne_eqb l (length below) (λ (e : l ≡ length below). omega arith))

pub index_less : (levels : List Level) (place l : ℕ) → place < nodes_of levels → l < length levels
    → low_of levels place ≤ l + 1 → index_at levels place l < group_count levels
index_less [] place l within lt low = absurd (omega arith)
index_less (level ∷ below) place l within lt low =
    let n : ℕ = nodes_of below in
    let c : ℕ = group_count below in
    let again : (b : InBlock level below place l) → l < length below
    → index_at below (place % n) l < c =
    λ b less. index_less below (place % n) l (place_inner level below place b.test) less b.low in
    ⊎_elim (λ e. omega (arith, index_top level below place l e))
    (λ ne.
    let less : l < length below = omega (arith, lt, ne) in
    let b = in_block level below place l less low in
    let room = block_room level.blocks c (place / n) (block_below level below place b.test) in
    omega (arith, index_under level below place l less, again b less, room))
    (cases_eq l (length below))

-- the group of a node stands where its index says
pub group_stands : (levels : List Level) (first place l : ℕ) (d : Group) → place < nodes_of levels
    → l < length levels → low_of levels place ≤ l + 1
    → get_or (groups_of levels first) (index_at levels place l) d ≡ group_at levels first place l
group_stands [] first place l d within lt low = absurd (omega arith)
group_stands (level ∷ below) first place l d within lt low =
    let n : ℕ = nodes_of below in
    let c : ℕ = group_count below in
    let f : ℕ → List Group = λ b. groups_of below (first + b * n) in
    let again : (b : InBlock level below place l) → l < length below →
    get_or (groups_of below (first + place / n * n)) (index_at below (place % n) l) d
    ≡ group_at below (first + place / n * n) (place % n) l =
    λ b less. group_stands below (first + place / n * n) (place % n) l d
    (place_inner level below place b.test) less b.low in
    ⊎_elim
    (λ e. ap (λ i. get_or (groups_of (level ∷ below) first) i d) (index_top level below place l e)
    ∙ sym (group_top level below first place l e))
    (λ ne.
    let less : l < length below = omega (arith, lt, ne) in
    let b = in_block level below place l less low in
    let at : index_at (level ∷ below) place l ≡ suc (place / n * c + index_at below (place % n) l) =
    index_under level below place l less ∙ omega arith in
    ap (λ i. get_or (groups_of (level ∷ below) first) i d) at
    ∙ (get_or-pieces f c (λ b. length-groups_of below (first + b * n)) level.blocks 0 (place / n)
    (index_at below (place % n) l) d
    (block_below level below place b.test)
    (index_less below (place % n) l (place_inner level below place b.test) less b.low)
    ∙ (ap (λ i. get_or (f i) (index_at below (place % n) l) d) (omega arith)
    ∙ (again b less ∙ sym (group_under level below first place l less)))))
    (cases_eq l (length below))

-- where the group of a node lies, and that it has the node
pub record HasNode (g : Group) (l u : ℕ) : Type 0 where
  pub below : g.below ≡ l
  pub first : g.first ≤ u
  pub last : u < g.first + nodes_in g

pub group_has : (levels : List Level) (first place l : ℕ) → place < nodes_of levels
    → l < length levels → low_of levels place ≤ l + 1
    → HasNode (group_at levels first place l) l (first + place)
group_has [] first place l within lt low = absurd (omega arith)
group_has (level ∷ below) first place l within lt low =
    let n : ℕ = nodes_of below in
    let again : (b : InBlock level below place l) → l < length below →
    HasNode (group_at below (first + place / n * n) (place % n) l) l
    (first + place / n * n + place % n) =
    λ b less. group_has below (first + place / n * n) (place % n) l
    (place_inner level below place b.test) less b.low in
    ⊎_elim
    (λ e. subst (λ g. HasNode g l (first + place)) (sym (group_top level below first place l e))
    (record { below = sym e; first = omega arith; last = omega (arith, within) }))
    (λ ne.
    let less : l < length below = omega (arith, lt, ne) in
    let b = in_block level below place l less low in
    subst (λ g. HasNode g l (first + place)) (sym (group_under level below first place l less))
    (subst (HasNode (group_at below (first + place / n * n) (place % n) l) l)
    (parted level below place first) (again b less)))
    (cases_eq l (length below))
