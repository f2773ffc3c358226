use Rattle.std.proofs.Common.{◌-◌, ◌%◌, ◌∙◌, [], ap, sym, arith}
use Rattle.adversary_script.proofs.WordBytes.{made}
use Rattle.adversary_script.proofs.stretches.KeystreamBlock.at.Goals as goal

pub invariant_of-result : goal.invariant_of-result
invariant_of-result c = record {
  said = (made c.set_at.new.generator c.args.key c.fill_bytes_via_u32.new.dst _ c.args.stream
      (c.args.place - c.args.place % 16) c.fill_bytes_via_u32.new.rng
      (c.set_at.ensures ∙ ap (λ key. record {
        key = key;
        stream = c.args.stream;
        word_pos = c.args.place - c.args.place % 16;
      }) c.requires)
      (omega (arith, c.ranges.place)) c.fill_bytes_via_u32.ensures).0;
}

pub returns-clause-same : goal.returns-clause-same
returns-clause-same c =
    (made c.set_at.new.generator c.args.key c.fill_bytes_via_u32.new.dst [] c.args.stream
    (c.args.place - c.args.place % 16) c.fill_bytes_via_u32.new.rng
    (c.set_at.ensures ∙ ap (λ key. record
    { key = key; stream = c.args.stream; word_pos = c.args.place - c.args.place % 16 }) c.requires)
    (omega (arith, c.ranges.place)) c.fill_bytes_via_u32.ensures).1 ∙ sym c.requires
