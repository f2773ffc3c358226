use Rattle.std.proofs.Common.{sym, ap, ◌∙◌, rules}
use Rattle.std.proofs.lemmas.Slice.Eq.{bytes_eq-Decides}
use Rattle.edge_io.specs.declared.mem_sink.MemSink.{MemSink}
use Rattle.run_pictures.proofs.Taken.{text_taken}
use Rattle.run_pictures.proofs.drawing.is_text_of.Goals as goal

pub returns-in-Ok : goal.returns-in-Ok
returns-in-Ok g c = λ same.
    sym (text_taken c.in_ok-sink.sink c.taken.result.now
    (ap (λ (s : MemSink). s.taken) c.in_ok-sink.ensures) c.new-writer.ensures c.put_text.ensures
    c.in-Ok.ensures (search rules))
    ∙ (bytes_eq-Decides c.taken.result.now c.args.text.now).0 (sym c.eq.ensures ∙ same)
