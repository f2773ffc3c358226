use Rattle.std.proofs.Common.{◌≡◌, true, arith}
use Rattle.std.specs.List.{filter}
use Rattle.std.proofs.lemmas.List.{length-take}
use Rattle.std.proofs.lemmas.List.Elements.{All-take, filter_passes}
use Rattle.draw.specs.Echoes.{is_printable}
use Rattle.draw.proofs.echoes.echoes_are_plain.Goals as goal

pub returns-clause-plain : goal.returns-clause-plain
returns-clause-plain c bytes =
    let printable = filter is_printable bytes in (
      omega (arith, length-take 200 printable),
      All-take (λ byte. is_printable byte ≡ true) 200 printable (filter_passes is_printable bytes),
    )
