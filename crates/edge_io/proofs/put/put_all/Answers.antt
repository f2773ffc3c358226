use Rattle.edge_io.proofs.Loops.{put_none, put_more, put_cut}
use Rattle.edge_io.proofs.put.put_all.Goals as goal

pub loop-rest-init : goal.loop-rest-init
loop-rest-init g c = put_none _ _

pub loop-rest-preserved : goal.loop-rest-preserved
loop-rest-preserved g c =
    put_more c.args.bytes.now _ _ _ _ _ c.in-Ok.ensures.bound c.loop-rest.invariant
    c.in-Ok.ensures.bytes c.in-Ok.ensures.cause c.in-Ok.ensures.uses c.in-Ok.ensures.follows

pub returns-in-Err : goal.returns-in-Err
returns-in-Err g c = put_cut _ _ _ _ _ c.loop-rest.invariant c.in-Err.ensures.bytes
    c.in-Err.ensures.cause c.in-Err.ensures.uses c.in-Err.ensures.follows c.in-Err.ensures.missed
