use Rattle.std.proofs.Common.{◌≡◌, ℕ, ◌≤◌, List, ◌++◌, length, take, drop, sym, ap, ◌∙◌, arith}
use Rattle.std.specs.List.{filter}
use Rattle.std.proofs.lemmas.List.{take_all, take_at, take-append-drop}
use Rattle.std.proofs.lemmas.List.Elements.{filter-append}
use Rattle.draw.specs.Echoes.{echoed, is_printable}
use Rattle.draw.proofs.echoes.echoed.Goals as goal

module _ (bytes said : List ℕ) (i : ℕ) (is : said ≡ filter is_printable (take i bytes)) where
  -- all bytes were looked at
  all_echoed : length bytes ≤ i → length said ≤ 200 → said ≡ echoed bytes
  all_echoed all few =
      let kept : said ≡ filter is_printable bytes =
      is ∙ ap (filter is_printable) (take_all i bytes all) in
      sym (take_all 200 said few) ∙ ap (λ (s : List ℕ). take 200 s) kept

  -- there are enough
  enough_echoed : length said ≡ 200 → said ≡ echoed bytes
  enough_echoed many =
      let rest = filter is_printable (drop i bytes) in
      let kept : filter is_printable bytes ≡ said ++ rest =
      ap (filter is_printable) (sym (take-append-drop i bytes))
      ∙ filter-append is_printable (take i bytes) (drop i bytes)
      ∙ ap (λ (s : List ℕ). s ++ rest) (sym is) in
      sym (ap (λ (s : List ℕ). take 200 s) kept ∙ take_at said rest 200 many)

pub returns-then-len-ge-MOST_ECHOED : goal.returns-then-len-ge-MOST_ECHOED
returns-then-len-ge-MOST_ECHOED c =
    enough_echoed c.args.bytes.now c.loop-byte.said.items c.loop-byte.byte-index
    c.loop-byte.invariant.said
    (omega (arith, c.len.ensures, c.loop-byte.invariant.few, c.if-len-ge-MOST_ECHOED.true))

pub returns : goal.returns
returns c =
    all_echoed c.args.bytes.now c.loop-byte.said.items c.loop-byte.byte-index
    c.loop-byte.invariant.said
    (omega (arith, c.loop-byte-test.false, c.loop-byte.auto.byte-index-end))
    c.loop-byte.invariant.few
