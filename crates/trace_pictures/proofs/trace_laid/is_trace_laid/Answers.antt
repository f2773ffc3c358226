use Rattle.std.proofs.Common.{◌*◌, length, sym, ap, ap₂, ◌∙◌, arith}
use Rattle.trace_pictures.proofs.trace_laid.is_trace_laid.Goals as goal

pub returns : goal.returns
returns c = λ stacked. record {
  some = (omega (arith, c.if-trace-eq0.false), omega (arith, c.if-trace-eq0-2.false));
  whole = sym (rw c.deref-4.ensures.value at c.in-Some.ensures.shown)
      ∙ (c.if-shown-whole.false ∙ ap₂ (λ x y. x * y) c.from-2.ensures c.from-3.ensures);
  ids = sym (ap length c.deref.ensures.value)
      ∙ (c.deref.ensures.len ∙ (sym c.len.ensures ∙ (c.if-len-from.false ∙ c.from.ensures)));
  rise = rw c.deref.ensures.value at c.ids_rise.ensures c.if-not-ids_rise.false;
  lines = rw (c.deref-2.ensures.value, c.deref-3.ensures.value, c.deref-4.ensures.value)
      at c.in-Some.ensures.laid;
  heard = rw (c.deref-else-shown-whole.ensures.value, c.deref-else-shown-whole-2.ensures.value)
      at c.have_turns.ensures c.if-not-have_turns.false;
  turns = rw (c.deref-5.ensures.value, c.deref-6.ensures.value)
      at c.are_turns_laid.ensures c.if-not-are_turns_laid.false;
  apart = rw c.deref-9.ensures.value at c.are_apart.ensures c.if-not-are_apart.false;
  titles = rw (c.deref-7.ensures.value, c.deref-8.ensures.value)
      at c.are_titles_laid.ensures c.if-not-are_titles_laid.false;
  distinct = rw c.deref-10.ensures.value at c.are_distinct.ensures c.if-not-are_distinct.false;
  strips = rw (c.deref-11.ensures.value, c.from-from.ensures, c.line_top.ensures.value)
      at c.are_stacked.ensures stacked;
  high = omega (arith, c.if-trace.false);
  said = c.is_trace_said.ensures c.if-not-is_trace_said.false;
}
