-- Different numbers have different keys.
use Rattle.std.proofs.Common.{◌≡◌, replicate, sym, ap, ◌∙◌}
use Rattle.std.specs.Int.{w64, to_be_bytes, from_be_bytes}
use Rattle.std.proofs.lemmas.List.{append_cancel_right}
use Rattle.std.proofs.lemmas.Nat.{from_be_bytes-to_be_bytes_8}
use Rattle.sweep.specs.Keys.{KeysDiffer}

pub keys_differ : KeysDiffer
keys_differ a b a_small b_small same =
    let bytes : to_be_bytes w64 a ≡ to_be_bytes w64 b =
    append_cancel_right (to_be_bytes w64 a) (to_be_bytes w64 b) (replicate 24 0) same in
    sym (from_be_bytes-to_be_bytes_8 a a_small) ∙ ap (from_be_bytes w64) bytes
    ∙ from_be_bytes-to_be_bytes_8 b b_small
