-- Cells that a writer was given, the first before the loop and the others in it.
use Rattle.std.proofs.Common.{◌≡◌, ℕ, List, [], ◌++◌, Result, Ok, Err, refl, sym, ap, append_assoc}
use Rattle.std.proofs.Common.{append-nil}
use Rattle.texts.specs.Growth.{SinkState, Wrote, Cut, Puts}
use Rattle.edge_io.specs.Writing.{Writes, IsFresh, Finishes}
use Rattle.edge_io.specs.declared.writer.Writer.{Writer}
use Rattle.edge_io.proofs.Writing.{writes_then, writes_last, writes_is, writes_all}
use Rattle.machines.specs.Machines.{Machine}
use Rattle.node_stepper.specs.Nodes.{Standing, own, state_cell, forgetting}

-- the cell of an engine that forgets who was heard
abbrev pub first_cell : {M : Type 0} → (machine : M → Machine) → Standing M → List ℕ
first_cell machine before =
    let e = forgetting machine before in state_cell (machine e.counter) e.id (own e)

pub first_cell_is : {M : Type 0} (machine : M → Machine) (before e : Standing M)
    → e ≡ forgetting machine before
    → state_cell (machine e.counter) e.id (own e) ≡ first_cell machine before
first_cell_is machine before e is =
    ap (λ (x : Standing _). state_cell (machine x.counter) x.id (own x)) is

module _ {K : Type 0} (told : K → SinkState) where
  -- whichever writer was given the first cell, it was given this text by now
  abbrev pub Gives : (first : List ℕ) → (initial now : Writer K) → List ℕ → Type 0
  Gives first initial now text =
      (fresh : Writer K) → Writes told first fresh initial → Writes told text fresh now

  pub gives_first : (first text : List ℕ) (initial : Writer K) → text ≡ first
      → Gives first initial initial text
  gives_first first text initial is fresh wrote = writes_is (sym is) wrote

  -- a packet was heard, and then one more cell was written
  pub gives_more : (first cell text : List ℕ) (initial now mid new : Writer K)
      → Writes told [] now mid → Writes told cell mid new → Gives first initial now text
      → Gives first initial new (text ++ cell)
  gives_more first cell text initial now mid new passed wrote gives fresh given =
      writes_then (gives fresh given) (writes_then passed wrote)

  -- the writer ends: all was written, or a write failed
  pub gives_all : {T E : Type 0} (result : Result T E) (lent : ℕ) (start : SinkState)
      (first text : List ℕ)
      (fresh initial now end : Writer K) (final : K) → IsFresh told lent start fresh
      → Writes told first fresh initial → Gives first initial now text
      → Finishes told result now end
      → (lent ≡ end.sink.ghost_name → final ≡ end.sink.now)
      → Puts result text start (told final)
  gives_all result lent start first text fresh initial now end final is_fresh given gives ends is =
      writes_all is_fresh (gives fresh given) ends is
