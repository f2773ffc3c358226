use Rattle.std.proofs.Common.{rules, ◌≡◌, ◌∙◌, ◌+◌, ap, sym, arith, map, ◌++◌, ◌∷◌, []}
use Rattle.std.specs.List.{range_with_len}
use Rattle.state_codec.specs.Packs.{start_of}
use Rattle.state_codec.proofs.Lows.{made_more}
use Rattle.state_codec.proofs.Holding.{start_more, start_first}
use Rattle.state_codec.proofs.packed.starts_of.Goals as goal

pub loop-v-init : goal.loop-v-init
loop-v-init c = record {
  made = c.in_ok-starts.ensures.items;
  end = sym (start_first c.args.shape.now);
  few = omega arith;
}

pub loop-v-preserved : goal.loop-v-preserved
loop-v-preserved c =
    let more = start_more c.args.shape.now c.loop-v.v in
    let pushed : c.push.new.self.items ≡ c.loop-v.starts.items ++ c.loop-v.start ∷ [] =
    search rules in
    record {
      made = pushed ∙ made_more (start_of c.args.shape.now) c.loop-v.v c.loop-v.start
          c.loop-v.starts.items c.loop-v.invariant.made c.loop-v.invariant.end;
      end = omega (arith, more, c.loop-v.invariant.end, c.bytes_of-start.ensures.value);
      few = omega (arith, c.loop-v.invariant.few, c.bytes_of-start.ensures.most);
    }

pub returns-clause-starts : goal.returns-clause-starts
returns-clause-starts c =
    let pushed : c.push-2.new.self.items ≡ c.loop-v.starts.items ++ c.loop-v.start ∷ [] =
    search rules in
    let all : c.loop-v.v ≡ c.args.nodes = omega (arith, c.loop-v-test.false) in
    pushed ∙ (made_more (start_of c.args.shape.now) c.loop-v.v c.loop-v.start
    c.loop-v.starts.items c.loop-v.invariant.made c.loop-v.invariant.end
    ∙ ap (λ n. map (start_of c.args.shape.now) (range_with_len 0 (n + 1))) all)

pub returns-clause-most : goal.returns-clause-most
returns-clause-most c =
    let all : c.loop-v.v ≡ c.args.nodes = omega (arith, c.loop-v-test.false) in
    omega (
      arith,
      all,
      c.loop-v.invariant.few,
      c.loop-v.invariant.end,
      ap (start_of c.args.shape.now) all,
    )
