use Rattle.std.proofs.Common.{◌≡◌, ℕ, ◌+◌, List, ◌++◌, length, take, drop, refl, sym, ap, ◌∙◌}
use Rattle.std.proofs.Common.{arith}
use Rattle.std.proofs.lemmas.List.{take_at, drop-drop, length-take, take-append-drop}
use Rattle.edge_io.specs.Memory.{MemSourceState}
use Rattle.edge_io.proofs.mem_source.MemSourceSource.read.Goals as goal

-- the bytes at the beginning of the buffer are those that are no longer left
moved_part : (bytes buf now tail : List ℕ) (at n k : ℕ) → buf ≡ bytes → now ≡ take k (drop at buf)
    → k ≡ n → length now ≡ n → drop at bytes ≡ take n (now ++ tail) ++ drop (at + n) bytes
moved_part bytes buf now tail at n k same is kn len =
    let front : take n (now ++ tail) ≡ take n (drop at bytes) = take_at now tail n len ∙ is
    ∙ rw (kn, same) refl in
    rw (front, ← drop-drop n at bytes) (sym (take-append-drop n (drop at bytes)))

pub returns-clause-bytes : goal.returns-clause-bytes
returns-clause-bytes c =
    let at = c.self.inside.at in
    let bytes = c.self.inside.bytes.items in
    let left : drop at bytes ≡ c.args.self.now.left =
    ap (λ (s : MemSourceState). s.left) c.self.view_is in
    let size : length c.copy_from_slice.new.self ≡ c.cut-count.result =
    omega (
      arith,
      c.copy_from_slice.ensures.len,
      c.cut-count.ensures.bound,
      length-take {A =
          ℕ},
    ) in (
      sym left ∙ moved_part bytes c.deref-3.result.now c.copy_from_slice.new.self _ at
          c.cut-count.result _ c.deref-3.ensures.value c.copy_from_slice.ensures.after (omega arith)
          size,
      λ none some. absurd (omega arith),
    )
