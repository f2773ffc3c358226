use Rattle.texts.proofs.Growth.{puts_exit, puts_then, cut_more}
use Rattle.attack.proofs.calling.write_both.Goals as goal

pub returns-in_err-write : goal.returns-in_err-write
returns-in_err-write g c =
    puts_exit _ _ _ _ _ c.from_residual.ensures.1 (cut_more _ _ _ _ c.in_err-write.ensures)

pub returns : goal.returns
returns g c = puts_then _ _ _ _ _ _ c.in_ok-write.ensures c.put_all.ensures
