use Rattle.std.proofs.Common.{◌≡◌, ℕ, ◌*◌, ◌≤◌, ◌∙◌, Bool, not, All, length, get_or, ap, sym, subst}
use Rattle.std.proofs.Common.{arith}
use Rattle.std.specs.Vec.{with_items}
use Rattle.std.proofs.lemmas.List.{with_items_is}
use Rattle.majority_votes.specs.Votes.{Votes}
use Rattle.shared_board.specs.Senders.{is_liar}
use Rattle.shared_board.specs.Votes.{AreVotes, IsKnown, blocks_lead}
use Rattle.shared_board.proofs.Passing.{passing_front}
use Rattle.shared_board.proofs.Known.{beat_is_known}
use Rattle.shared_board.proofs.Groups.{facts}
use Rattle.shared_board.proofs.group.Group.gather.Goals as goal

pub invariant_of-site : goal.invariant_of-site
invariant_of-site g c =
    let f = facts c.args.self.now c.requires.group in
    let n : ℕ = c.args.self.now.block in
    let long : length c.deref.result.now ≡ c.args.self.now.nums.blocks =
    ap length c.deref.ensures.value ∙ f.long in
    let fits : length c.deref.result.now * n ≡ c.args.self.now.nums.blocks * n =
    ap (λ k. k * n) long in
    record {
      some_intervals = subst (λ is. All (λ interval. 1 ≤ interval) is)
          (sym c.deref.ensures.value) f.some_intervals;
      some_leaders = omega (arith, c.from.ensures, f.some_leaders);
      few_leaders = omega (arith, c.from.ensures, f.few_leaders, long);
      some_beat = omega (arith, f.beat);
      fits = omega (arith, fits, f.size);
      within = c.requires.within;
    }

pub gather_lead-self-requires : goal.gather_lead-self-requires
gather_lead-self-requires g c =
    let n : ℕ = c.args.self.now.block in
    let long = ap length c.deref.ensures.value ∙ (facts c.args.self.now c.requires.group).long in (
      ap length c.deref_mut-2.ensures.value ∙ (c.requires.group.votes ∙ sym long),
      (
        ap length c.deref_mut.ensures.value ∙ (c.requires.group.pointers ∙ sym long),
        subst (All (λ (t : Votes). n ≤ t.capacity))
            (sym c.deref_mut.ensures.value) c.requires.group.pointers_room,
      ),
    )

-- all is counted or known
pub returns-clause-stands : goal.returns-clause-stands
returns-clause-stands g c =
    let group = c.args.self.now in
    let nums = group.nums in
    let s = c.args.senders.now in
    let is = c.requires.group in
    let f = facts group is in
    let intervals = group.intervals.items in
    let votes = c.gather_lead-self.new.votes in
    let pointers = c.gather_lead-self.new.pointers in
    let lead = c.gather_lead-self.result in
    let part = c.gather_beat-self.result in
    let parts = c.gather_beat-self.new.parts in
    let are : AreVotes s intervals nums.leaders group.first group.block votes pointers =
    subst (λ m. AreVotes s intervals m group.first group.block votes pointers) c.from.ensures
    (subst (λ is. AreVotes s is c.from.result group.first group.block votes pointers)
    c.deref.ensures.value c.gather_lead-self.ensures.blocks.counted) in
    let lead_known : IsKnown s
    (λ lies. blocks_lead s lies intervals nums.leaders group.first group.block) lead =
    subst (λ m. IsKnown s (λ lies. blocks_lead s lies intervals m group.first group.block) lead)
    c.from.ensures
    (subst (λ is. IsKnown s
    (λ lies. blocks_lead s lies is c.from.result group.first group.block) lead)
    c.deref.ensures.value c.gather_lead-self.ensures.blocks.known) in
    let long : length c.deref.result.now ≡ nums.blocks = ap length c.deref.ensures.value ∙ f.long in
    let votes_long : length votes ≡ length group.votes.items =
    c.gather_lead-self.ensures.blocks.room.0 ∙ (long ∙ sym is.votes) in
    let pointers_long : length pointers ≡ length group.pointers.items =
    c.gather_lead-self.ensures.blocks.room.1.0 ∙ (long ∙ sym is.pointers) in
    let parts_long : length parts ≡ length group.parts.items = c.gather_beat-self.ensures.room.0
    ∙ (c.from.ensures ∙ sym is.parts) in
    let ev : (with_items group.votes votes).items ≡ votes =
    with_items_is group.votes votes (votes_long ∙ sym group.votes.ok.0) in
    let ep : (with_items group.pointers pointers).items ≡ pointers =
    with_items_is group.pointers pointers (pointers_long ∙ sym group.pointers.ok.0) in
    let eq : (with_items group.parts parts).items ≡ parts =
    with_items_is group.parts parts (parts_long ∙ sym group.parts.ok.0) in
    record {
      room = record {
        numbers = is.numbers;
        block = is.block;
        intervals = is.intervals;
        votes = ap length ev ∙ (votes_long ∙ is.votes);
        pointers = ap length ep ∙ (pointers_long ∙ is.pointers);
        pointers_room = subst (λ ts. All (λ (t : Votes). group.block ≤ t.capacity) ts)
            (sym ep) c.gather_lead-self.ensures.blocks.room.1.1;
        parts = ap length eq ∙ (parts_long ∙ is.parts);
        parts_room = subst (λ ts. All (λ (t : Votes). group.block ≤ t.capacity) ts)
            (sym eq) c.gather_beat-self.ensures.room.1;
        values_room = omega (arith, is.values_room, c.gather_least-self.ensures.capacity);
      };
      within = c.requires.within;
      locked = c.lock-lock.ensures.value;
      settled = c.lock-lock.ensures.settled.0;
      counted = λ _. record {
        votes = subst (λ vs. AreVotes s intervals nums.leaders group.first group.block vs
            (with_items group.pointers pointers).items) (sym ev)
            (subst (λ ts. AreVotes s intervals nums.leaders group.first group.block votes ts)
            (sym ep) are);
        lead = lead_known;
        beat = beat_is_known s intervals nums.leaders group.first group.block nums.beat lead part
            parts lead_known c.gather_beat-self.ensures.beat;
        parts = λ e b d lt at. ap (λ ts. (get_or ts b d).values) eq
            ∙ c.gather_beat-self.ensures.beat.counted e b d
            (omega (arith, lt, parts_long, is.parts)) at;
        values = c.gather_least-self.ensures.values;
        least = c.gather_least-self.ensures.least;
      };
    }

-- at most three for each correct node
pub returns-clause-steps : goal.returns-clause-steps
returns-clause-steps g c =
    let group = c.args.self.now in
    let nums = group.nums in
    let s = c.args.senders.now in
    let n : ℕ = group.block in
    let f = facts group c.requires.group in
    let q : ℕ → Bool = λ u. not (is_liar s u) in
    let long = ap length c.deref.ensures.value ∙ f.long in
    let blocks : length c.deref.result.now * n ≡ nums.blocks * n = ap (λ k. k * n) long in
    let leaders : c.from.result * n ≡ nums.leaders * n = ap (λ k. k * n) c.from.ensures in
    omega (
      arith,
      c.gather_lead-self.ensures.steps,
      c.gather_beat-self.ensures.steps,
      c.gather_least-self.ensures.steps,
      passing_front q group.first (length c.deref.result.now * n) nums.nodes
          (omega (arith, blocks, f.size)),
      passing_front q group.first (c.from.result * n) nums.nodes
          (omega (arith, leaders, f.size, f.leaders_fit)),
    )
