use Rattle.std.proofs.Common.{◌≡◌, ℕ, List, ◌+◌, ◌*◌, ◌<◌, ◌≤◌, ◌∙◌, All, length, ap, sym}
use Rattle.std.proofs.Common.{subst, refl, arith}
use Rattle.std.proofs.lemmas.Nat.{mul-le}
use Rattle.majority_votes.specs.Votes.{Votes}
use Rattle.sync_types.specs.States.{State}
use Rattle.shared_board.specs.Senders.{Sent, liars_in, parts_of}
use Rattle.shared_board.specs.Votes.{IsKnown, AreVotes, blocks_lead}
use Rattle.shared_board.specs.GroupVotes.{contents, IsGroup, lead_heard}
use Rattle.shared_board.specs.declared.group.Group.{Group}
use Rattle.shared_board.proofs.Known.{lead_below, agrees}
use Rattle.shared_board.proofs.Groups.{facts}
use Rattle.shared_board.proofs.Heard.{liars_block, liars_front}
use Rattle.shared_board.proofs.group.Group.beat_heard.Goals as goal

pub invariant_of-site : goal.invariant_of-site
invariant_of-site g c =
    let f = facts c.args.self.now c.requires.stands.room in
    let n : ℕ = c.args.self.now.block in
    let long : length c.deref.result.now ≡ c.args.self.now.nums.blocks =
    ap length c.deref.ensures.value ∙ f.long in
    let fits : length c.deref.result.now * n ≡ c.args.self.now.nums.blocks * n =
    ap (λ k. k * n) long in
    record {
      some_intervals = subst (λ is. All (λ interval. 1 ≤ interval) is)
          (sym c.deref.ensures.value) f.some_intervals;
      some_leaders = omega (arith, c.from.ensures, f.some_leaders);
      few_leaders = omega (arith, c.from.ensures, f.few_leaders, long);
      some_beat = omega (arith, f.beat);
      fits = omega (arith, fits, f.size);
      within = c.requires.stands.within;
    }

-- what is known and counted, by the names of the call
pub invariant_of-asking : goal.invariant_of-asking
invariant_of-asking g c =
    let group = c.args.self.now in
    let s = c.args.hearing.now.senders.now in
    let n : ℕ = group.block in
    let room = c.requires.stands.room in
    let counted = c.requires.stands.counted c.requires.open in
    let leaders : ℕ = c.from.result in
    let votes = c.deref-2.result.now in
    let pointers = c.deref-3.result.now in
    let intervals = c.deref.result.now in
    let items = group.intervals.items in
    let long = ap length c.deref.ensures.value ∙ (facts group room).long in
    record {
      same = refl;
      blocks = record {
        known = subst (λ is. IsKnown s
            (λ lies. blocks_lead s lies is leaders group.first n) group.lead)
            (sym c.deref.ensures.value)
            (subst (λ m. IsKnown s (λ lies. blocks_lead s lies items m group.first n) group.lead)
            (sym c.from.ensures) counted.lead);
        counted = subst (λ is. AreVotes s is leaders group.first n votes pointers)
            (sym c.deref.ensures.value)
            (subst (λ m. AreVotes s items m group.first n votes pointers) (sym c.from.ensures)
            (subst (λ vs. AreVotes s items group.nums.leaders group.first n vs pointers)
            (sym c.deref-2.ensures.value)
            (subst (λ ts. AreVotes s items group.nums.leaders group.first n group.votes.items ts)
            (sym c.deref-3.ensures.value) counted.votes)));
        room = (
          ap length c.deref-2.ensures.value ∙ (room.votes ∙ sym long),
          (
            ap length c.deref-3.ensures.value ∙ (room.pointers ∙ sym long),
            subst (All (λ (t : Votes). n ≤ t.capacity))
                (sym c.deref-3.ensures.value) room.pointers_room,
          ),
        );
      };
      few = omega (
        arith,
        ap length c.deref.ensures.value,
        (facts c.args.self.now room).long,
        room.numbers.sized.most_blocks,
      );
    }

-- the lead is one of the leaders, whose parts are counted
lead_in : (group : Group) → IsGroup group → (s : Sent) (intervals : List ℕ) (leaders : ℕ)
    (lies : List State) (lead : ℕ) → leaders ≡ group.nums.leaders
    → lead ≡ blocks_lead s lies intervals leaders group.first group.block
    → lead < group.nums.leaders
lead_in group room s intervals leaders lies lead e is =
    omega (
      arith,
      e,
      is,
      lead_below s intervals leaders group.first group.block lies
          (omega (arith, e, (facts group room).some_leaders)),
    )

pub start-requires : goal.start-requires
start-requires g c =
    let group = c.args.self.now in
    let room = c.requires.stands.room in
    let f = facts group room in
    let hearing = c.args.hearing.now in
    omega (
      arith,
      lead_in group room hearing.senders.now c.deref.result.now c.from.result hearing.lies.now
          c.lead-lead.result c.from.ensures c.lead-lead.ensures.lead,
      f.few_leaders,
      ap length c.deref.ensures.value ∙ f.long,
    )

pub index-requires : goal.index-requires
index-requires g c =
    let group = c.args.self.now in
    let room = c.requires.stands.room in
    let hearing = c.args.hearing.now in
    omega (
      arith,
      lead_in group room hearing.senders.now c.deref.result.now c.from.result hearing.lies.now
          c.lead-lead.result c.from.ensures c.lead-lead.ensures.lead,
      room.parts,
    )

pub most-requires-clause-within : goal.most-requires-clause-within
most-requires-clause-within g c =
    let group = c.args.self.now in
    let room = c.requires.stands.room in
    let f = facts group room in
    let hearing = c.args.hearing.now in
    let lead = lead_in group room hearing.senders.now c.deref.result.now c.from.result
    hearing.lies.now c.lead-lead.result c.from.ensures c.lead-lead.ensures.lead in
    omega (
      arith,
      c.start.ensures,
      mul-le (c.lead-lead.result + 1) group.block group.nums.blocks group.block
          (omega (arith, lead, f.few_leaders)) (omega arith),
      f.size,
      c.requires.stands.within,
    )

pub most-requires-clause-stands : goal.most-requires-clause-stands
most-requires-clause-stands g c =
    let group = c.args.self.now in
    let room = c.requires.stands.room in
    let s = c.args.hearing.now.senders.now in
    let lies = c.args.hearing.now.lies.now in
    let counted = c.requires.stands.counted c.requires.open in
    let lead = c.lead-lead.result in
    let poll = c.index.result.now in
    let is : lead ≡ lead_heard s (contents group) lies =
    c.lead-lead.ensures.lead
    ∙ (ap (λ is. blocks_lead s lies is c.from.result group.first group.block) c.deref.ensures.value
    ∙ ap (λ m. blocks_lead s lies group.intervals.items m group.first group.block)
    c.from.ensures) in
    record {
      known = tt;
      counted = λ none.
          ap (λ (v : Votes). v.values) c.index.ensures
          ∙ (counted.parts c.in_default.is lead poll
          (lead_in group room s c.deref.result.now c.from.result lies lead c.from.ensures
          c.lead-lead.ensures.lead)
          (agrees s (lead_heard s (contents group)) group.lead counted.lead lies
          c.args.hearing.now.told lead is)
          ∙ ap (λ a. parts_of s group.nums.beat a group.block) (sym c.start.ensures));
    }

pub most-requires-clause-room : goal.most-requires-clause-room
most-requires-clause-room g c =
    let group = c.args.self.now in
    let room = c.requires.stands.room in
    let hearing = c.args.hearing.now in
    let lead = lead_in group room hearing.senders.now c.deref.result.now c.from.result
    hearing.lies.now c.lead-lead.result c.from.ensures c.lead-lead.ensures.lead in
    subst (λ (v : Votes). group.block ≤ v.capacity) (sym c.index.ensures)
    (room.parts_room c.lead-lead.result c.index.result.now (omega (arith, lead, room.parts)))

-- two at most for each liar: one by the blocks, and one by that which leads
pub returns-clause-steps : goal.returns-clause-steps
returns-clause-steps g c =
    let group = c.args.self.now in
    let room = c.requires.stands.room in
    let f = facts group room in
    let n : ℕ = group.block in
    let nodes : ℕ = group.nums.nodes in
    let hearing = c.args.hearing.now in
    let s = hearing.senders.now in
    let lead = c.lead-lead.result in
    let below = lead_in group room s c.deref.result.now c.from.result
    hearing.lies.now lead c.from.ensures c.lead-lead.ensures.lead in
    let long : length c.deref.result.now ≡ group.nums.blocks =
    ap length c.deref.ensures.value ∙ f.long in
    let fits : length c.deref.result.now * n ≡ group.nums.blocks * n = ap (λ k. k * n) long in
    let last : (lead + 1) * n ≤ group.nums.blocks * n =
    mul-le (lead + 1) n group.nums.blocks n (omega (arith, below, f.few_leaders)) (omega arith) in
    omega (
      arith,
      c.lead-lead.ensures.steps,
      c.most.ensures.steps,
      ap (λ a. liars_in s a n) c.start.ensures,
      liars_block s group.first lead n nodes (omega (arith, last, f.size)),
      liars_front s group.first (length c.deref.result.now * n) nodes
          (omega (arith, fits, f.size)),
    )
