-- The lines that are written while a runner plays.
use Rattle.std.proofs.Common.{◌≡◌, ℕ, ◌+◌, ◌-◌, ◌≤◌, true, List, refl, ap, arith}
use Rattle.std.specs.List.{flat_map, range_with_len}
use Rattle.texts.specs.Growth.{SinkState}
use Rattle.edge_io.specs.Writing.{Writes}
use Rattle.edge_io.specs.declared.writer.Writer.{Writer}
use Rattle.edge_io.proofs.Writing.{writes_none, writes_next, writes_stopped, writes_is}
use Rattle.machines.specs.Machines.{Machine}
use Rattle.machine_runner.specs.Runners.{Running}
use Rattle.machine_runner.specs.ShownTexts.{shown_line, shown_lines}
use Rattle.machine_runner.proofs.PlayedOn.{at_number, plays_on}

module _ {K : Type 0} (told : K → SinkState) {M : Type 0} (machine : M → Machine)
    (label : List ℕ) (word : (output v : ℕ) → List ℕ) (start : Running M) where
  abbrev first : ℕ
  first = start.script.first

  abbrev count : ℕ
  count = start.script.last + 1 - start.script.first

  -- the line of configuration t
  abbrev line : ℕ → List ℕ
  line t = shown_line label word (machine start.machine) start.script t

  -- those of so many configurations
  abbrev lines : ℕ → List ℕ
  lines n = flat_map line (range_with_len first n)

  -- The lines before configuration t are written, by the runner, which is at it or before it.
  pub record LinesSoFar (t : ℕ) (r : Running M) (old now : Writer K) : Type 0 where
    pub same : r ≡ at_number start r.at
    pub before : r.at ≤ t
    pub wrote : Writes told (flat_map
        (λ t. shown_line label word (machine start.machine) start.script t)
        (range_with_len start.script.first (t - start.script.first))) old now

  pub lines_begin : (t : ℕ) (now : Writer K) → t ≡ first → start.at ≡ 0
      → LinesSoFar t start now now
  lines_begin t now is at = record {
    same = refl;
    before = omega (arith, at);
    wrote = let none : 0 ≡ t - first = omega (arith, is) in writes_is (ap lines none) writes_none;
  }

  -- the runner plays on, and the line of configuration t is written
  pub lines_go_on : (t : ℕ) (r new : Running M) (old mid now : Writer K)
      → LinesSoFar t r old mid → new ≡ record r { at = new.at } → new.at ≤ t → first ≤ t
      → Writes told (shown_line label word (machine new.machine) new.script t) mid now
      → LinesSoFar (t + 1) new old now
  lines_go_on t r new old mid now so_far on le from one =
      let there : new ≡ at_number start new.at = plays_on start r r.at so_far.same new new.at on in
      let next : t - first + 1 ≡ t + 1 - first = omega (arith, from) in
      let own = writes_is
      (ap (λ (r : Running M). shown_line label word (machine r.machine) r.script t) there) one in
      record {
        same = there;
        before = omega (arith, le);
        wrote = writes_is (ap lines next) (writes_next line first (t - first) t so_far.wrote own
            (omega (arith, from)));
      }

  -- if a write failed, it is as if all were written
  pub lines_stop : (t : ℕ) (r : Running M) (old now : Writer K) → LinesSoFar t r old now
      → t ≤ start.script.last + 1 → now.failed ≡ true
      → Writes told (shown_lines label word (machine start.machine) start.script) old now
  lines_stop t r old now so_far within failed =
      writes_stopped line first (t - first) count so_far.wrote failed (omega (arith, within))

  pub lines_end : (t : ℕ) (r : Running M) (old now : Writer K) → LinesSoFar t r old now
      → t ≡ start.script.last + 1
      → Writes told (shown_lines label word (machine start.machine) start.script) old now
  lines_end t r old now so_far end =
      writes_is (ap (λ (n : ℕ). lines (n - first)) end) so_far.wrote
