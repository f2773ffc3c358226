-- Nodes that are connected, whatever is sent: packets before the window hold what is sent, and
-- round by round each packet gets what the correct nodes write after the packets so far.
use Rattle.std.proofs.Common.{◌≡◌, ℕ, zero, suc, ◌+◌, ◌-◌, ◌<◌, ◌≤◌, Bool, true, false, cond, ◌⊎◌}
use Rattle.std.proofs.Common.{inl, inr, List, [], ◌∷◌, ◌++◌, length, map, take, get_or, refl, sym}
use Rattle.std.proofs.Common.{ap, subst, ◌∙◌, arith, length-append}
use Rattle.std.specs.Prelude.{if◌then◌else◌}
use Rattle.std.specs.List.{range_with_len}
use Rattle.std.proofs.lemmas.Bool.{cases_lt}
use Rattle.std.proofs.lemmas.List.{get_or_append_left, get_or_push, take-append-le, take_all}
use Rattle.std.proofs.lemmas.List.FromFn.{length-map-range_with_len, get_or-map-range_with_len}
use Rattle.sync_types.specs.States.{State}
use Rattle.construction.specs.Runs.{is_in}
use Rattle.state_codec.specs.Reading.{read}
use Rattle.state_codec.specs.Writing.{written}
use Rattle.machines.specs.Machines.{Machine, IsState}
use Rattle.machines.specs.Laws.{IsSound}
use Rattle.node_stepper.specs.Nodes.{state_behind}
use Rattle.node_stepper.specs.Laws.{AreFull}
use Rattle.node_stepper.specs.NodeRuns.{Nodes, cell_given, IsCorrect, state_in, AreConnected}
use Rattle.node_stepper.specs.RunLaws.{Connects, AnyLiesConnect}
use Rattle.node_stepper.specs.Losses.{AreMissed, AreHeard}
use Rattle.node_stepper.specs.Lossy.{ConnectsMost, AnyLossesConnect}
use Rattle.node_stepper.proofs.Losses.{not_so}
use Rattle.node_stepper.proofs.States.{reads_back, behind_is_state}

full_push : (nodes : ℕ) (packets : List (List (List ℕ))) (packet : List (List ℕ))
    → AreFull nodes packets → length packet ≡ nodes → AreFull nodes (packets ++ packet ∷ [])
full_push nodes [] packet full size = (size, tt)
full_push nodes (p ∷ packets) packet (this, full) size =
    (this, full_push nodes packets packet full size)

-- `lost i v u`: in round i node v is given what is sent as the cell of node u, not what that writes
module _ (m : Machine) (lost : (i v u : ℕ) → Bool) (starts : ℕ → State)
    (sent : ℕ → ℕ → ℕ → List ℕ) (begins : ℕ → ℕ) where
  -- a packet of node v that holds what is sent, and so many of them
  abbrev sent_packet : (t v : ℕ) → List (List ℕ)
  sent_packet t v = map (sent t v) (range_with_len 0 m.nodes)

  abbrev sent_packets : (count v : ℕ) → List (List (List ℕ))
  sent_packets zero v = []
  sent_packets (suc t) v = sent_packets t v ++ sent_packet t v ∷ []

  sent_long : (count v : ℕ) → length (sent_packets count v) ≡ count
  sent_long zero v = refl
  sent_long (suc t) v =
      omega (arith, length-append (sent_packets t v) (sent_packet t v ∷ []), sent_long t v)

  sent_full : (count v : ℕ) → AreFull m.nodes (sent_packets count v)
  sent_full zero v = tt
  sent_full (suc t) v =
      full_push m.nodes (sent_packets t v) (sent_packet t v) (sent_full t v)
      (length-map-range_with_len (sent t v) 0 m.nodes)

  sent_is : (count t v : ℕ) → t < count → get_or (sent_packets count v) t [] ≡ sent_packet t v
  sent_is zero t v lt = absurd (omega arith)
  sent_is (suc c) t v lt = elim (cases_lt t c) [
    | inl within ↦
        get_or_append_left (sent_packets c v) (sent_packet c v ∷ []) [] t
        (omega (arith, sent_long c v))
        ∙ sent_is c t v within
    | inr over ↦
        let last : t ≡ c = omega arith in
        get_or_push (sent_packets c v) (sent_packet c v) [] t (omega (arith, sent_long c v))
        ∙ ap (λ k. sent_packet k v) (sym last)
  ]

  -- what node u writes after packets
  abbrev written_behind : (u : ℕ) → List (List (List ℕ)) → List ℕ
  written_behind u packets = written (m.fields u) (state_behind m u (starts u) packets)

  -- the cell of node u for node v in round i, if u has these packets before
  abbrev cell_from : (i v u : ℕ) → List (List (List ℕ)) → List ℕ
  cell_from i v u packets =
      if lost i v u then sent (begins v + i) v u else written_behind u packets

  -- the packets of node v to the end of so many rounds
  abbrev packets_by : (rounds v : ℕ) → List (List (List ℕ))
  packets_by zero v = sent_packets (begins v) v
  packets_by (suc i) v =
      packets_by i v
      ++ map (λ u. cell_from i v u (packets_by i u)) (range_with_len 0 m.nodes) ∷ []

  abbrev cell_by : (i v u : ℕ) → List ℕ
  cell_by i v u = cell_from i v u (packets_by i u)

  abbrev packet_by : (i v : ℕ) → List (List ℕ)
  packet_by i v = map (cell_by i v) (range_with_len 0 m.nodes)

  pub long : (rounds v : ℕ) → length (packets_by rounds v) ≡ begins v + rounds
  long zero v = omega (arith, sent_long (begins v) v)
  long (suc i) v = omega (arith, length-append (packets_by i v) (packet_by i v ∷ []), long i v)

  pub are_full : (rounds v : ℕ) → AreFull m.nodes (packets_by rounds v)
  are_full zero v = sent_full (begins v) v
  are_full (suc i) v =
      full_push m.nodes (packets_by i v) (packet_by i v) (are_full i v)
      (length-map-range_with_len (cell_by i v) 0 m.nodes)

  prefix_all : (rounds t v : ℕ) → t ≡ begins v + rounds
      → take t (packets_by rounds v) ≡ packets_by rounds v
  prefix_all rounds t v e = take_all t (packets_by rounds v) (omega (arith, long rounds v))

  prefix : (rounds i v : ℕ) → i ≤ rounds
      → take (begins v + i) (packets_by rounds v) ≡ packets_by i v
  prefix zero i v le =
      let none : i ≡ zero = omega arith in
      prefix_all zero (begins v + i) v (omega arith) ∙ ap (λ k. packets_by k v) (sym none)
  prefix (suc r) i v le = elim (cases_lt r i) [
    | inl above ↦
        let all : i ≡ suc r = omega arith in
        prefix_all (suc r) (begins v + i) v (omega arith) ∙ ap (λ k. packets_by k v) (sym all)
    | inr within ↦
        take-append-le (begins v + i) (packets_by r v) (packet_by r v ∷ [])
        (omega (arith, long r v))
        ∙ prefix r i v within
  ]

  packet_is : (rounds i v : ℕ) → i < rounds
      → get_or (packets_by rounds v) (begins v + i) [] ≡ packet_by i v
  packet_is zero i v lt = absurd (omega arith)
  packet_is (suc r) i v lt = elim (cases_lt i r) [
    | inl within ↦
        get_or_append_left (packets_by r v) (packet_by r v ∷ []) [] (begins v + i)
        (omega (arith, long r v))
        ∙ packet_is r i v within
    | inr over ↦
        let last : i ≡ r = omega arith in
        get_or_push (packets_by r v) (packet_by r v) [] (begins v + i) (omega (arith, long r v))
        ∙ ap (λ k. packet_by k v) (sym last)
  ]

  early_is : (rounds t v : ℕ) → t < begins v
      → get_or (packets_by rounds v) t [] ≡ sent_packet t v
  early_is zero t v lt = sent_is (begins v) t v lt
  early_is (suc r) t v lt =
      get_or_append_left (packets_by r v) (packet_by r v ∷ []) [] t (omega (arith, long r v))
      ∙ early_is r t v lt

  module _ (rounds : ℕ) where
    abbrev pub nodes : Nodes
    nodes = record { starts = starts; packets = packets_by rounds }

    given_is : (i v u : ℕ) → i < rounds → u < m.nodes
        → cell_given nodes (begins v + i) v u ≡ cell_by i v u
    given_is i v u lt ult =
        ap (λ (packet : List (List ℕ)). get_or packet u []) (packet_is rounds i v lt)
        ∙ get_or-map-range_with_len (cell_by i v) 0 m.nodes u u [] ult (omega arith)

    pub given_early : (t v u : ℕ) → t < begins v → u < m.nodes → cell_given nodes t v u ≡ sent t v u
    given_early t v u lt ult =
        ap (λ (packet : List (List ℕ)). get_or packet u []) (early_is rounds t v lt)
        ∙ get_or-map-range_with_len (sent t v) 0 m.nodes u u [] ult (omega arith)

    pub given_lost : (i v u : ℕ) → i < rounds → u < m.nodes → lost i v u ≡ true
        → cell_given nodes (begins v + i) v u ≡ sent (begins v + i) v u
    given_lost i v u lt ult is =
        given_is i v u lt ult
        ∙ ap (λ b. cond b (sent (begins v + i) v u) (written_behind u (packets_by i u))) is

    pub wrote : (i v u : ℕ) → i < rounds → u < m.nodes → lost i v u ≡ false
        → cell_given nodes (begins v + i) v u ≡ written (m.fields u) (state_in m nodes begins i u)
    wrote i v u lt ult is =
        given_is i v u lt ult
        ∙ ap (λ b. cond b (sent (begins v + i) v u) (written_behind u (packets_by i u))) is
        ∙ ap (written_behind u) (sym (prefix rounds i u (omega arith)))

    -- what is given as it was written is read as the state
    pub read_back : IsSound m → (i v u : ℕ) → i < rounds → u < m.nodes → IsState m u (starts u)
        → lost i v u ≡ false
        → read (m.fields u) (cell_given nodes (begins v + i) v u) ≡ state_in m nodes begins i u
    read_back sound i v u lt ult begun is =
        ap (read (m.fields u)) (wrote i v u lt ult is)
        ∙ reads_back m sound u ult (state_in m nodes begins i u)
        (behind_is_state m sound u ult (starts u) (take (begins u + i) (packets_by rounds u))
        begun)

-- ---- whatever faulty nodes send

module _ (m : Machine) (sound : IsSound m) (faulty : List ℕ) (starts : ℕ → State)
    (sent : ℕ → ℕ → ℕ → List ℕ) (begins : ℕ → ℕ) (rounds : ℕ)
    (begun : (v : ℕ) → IsCorrect m faulty v → IsState m v (starts v)) where
  abbrev lies : (i v u : ℕ) → Bool
  lies i v u = is_in faulty u

  abbrev own : Nodes
  own = nodes m lies starts sent begins rounds

  given : (t v u : ℕ) → t < begins v + rounds → u < m.nodes
      → (t < begins v) ⊎ (is_in faulty u ≡ true) → cell_given own t v u ≡ sent t v u
  given t v u lt ult (inl early) = given_early m lies starts sent begins rounds t v u early ult
  given t v u lt ult (inr is) = elim (cases_lt t (begins v)) [
    | inl early ↦ given_early m lies starts sent begins rounds t v u early ult
    | inr late ↦
        let at : begins v + (t - begins v) ≡ t = omega arith in
        subst (λ k. cell_given own k v u ≡ sent k v u) at
        (given_lost m lies starts sent begins rounds (t - begins v) v u (omega arith) ult is)
  ]

  -- so they hear what the correct ones wrote
  connected : AreConnected m faulty own begins rounds
  connected = record {
    starts = begun;
    enough = λ v correct. omega (arith, long m lies starts sent begins rounds v);
    cells = λ i v u lt v_correct u_correct other.
        read_back m lies starts sent begins rounds sound i v u lt u_correct.0 (begun u u_correct)
        u_correct.1;
  }

  pub lies_connect : Connects m faulty starts sent begins rounds
  lies_connect = record {
    nodes = own;
    begin = refl;
    are = connected;
    long = long m lies starts sent begins rounds;
    full = are_full m lies starts sent begins rounds;
    given = given;
    wrote = λ i v u lt correct.
        wrote m lies starts sent begins rounds i v u lt correct.0 correct.1;
  }

pub any_lies_connect : AnyLiesConnect
any_lies_connect m sound faulty starts sent begins rounds begun =
    lies_connect m sound faulty starts sent begins rounds begun

-- ---- whatever is lost

module _ (m : Machine) (sound : IsSound m) (faulty : List ℕ) (starts : ℕ → State)
    (sent : ℕ → ℕ → ℕ → List ℕ) (missed : (i v : ℕ) → List ℕ) (begins : ℕ → ℕ) (rounds : ℕ)
    (begun : (v : ℕ) → IsCorrect m faulty v → IsState m v (starts v))
    (are : (i v : ℕ) → i < rounds → IsCorrect m faulty v → AreMissed m faulty v (missed i v)) where
  abbrev losses : (i v u : ℕ) → Bool
  losses i v u = is_in (missed i v) u

  abbrev lossy : Nodes
  lossy = nodes m losses starts sent begins rounds

  heard : AreHeard m faulty lossy begins rounds
  heard = record {
    starts = begun;
    enough = λ v correct. omega (arith, long m losses starts sent begins rounds v);
    missed = missed;
    are = are;
    cells = λ i v u lt correct ult not_missed other.
        let not_faulty : is_in faulty u ≡ false =
        not_so (is_in faulty u) (is_in (missed i v) u) ((are i v lt correct).faulty_too u)
        not_missed in
        read_back m losses starts sent begins rounds sound i v u lt ult
        (begun u (ult, not_faulty)) not_missed;
  }

  pub losses_connect : ConnectsMost m faulty starts sent missed begins rounds
  losses_connect = record {
    nodes = lossy;
    begin = refl;
    are = heard;
    long = long m losses starts sent begins rounds;
    full = are_full m losses starts sent begins rounds;
    early = λ t v u lt ult. given_early m losses starts sent begins rounds t v u lt ult;
    lost = λ i v u lt ult is. given_lost m losses starts sent begins rounds i v u lt ult is;
    wrote = λ i v u lt ult is. wrote m losses starts sent begins rounds i v u lt ult is;
  }

pub any_losses_connect : AnyLossesConnect
any_losses_connect m sound faulty starts sent missed begins rounds begun are =
    losses_connect m sound faulty starts sent missed begins rounds begun are
