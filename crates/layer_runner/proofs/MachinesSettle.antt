-- The counter of a sound machine is settling, and what is read for a machine with a layer.
use Rattle.std.proofs.Common.{All, refl, sym, ◌∙◌, subst}
use Rattle.counter_core.specs.Overlays.{Layer}
use Rattle.adversary_script.specs.Scripts.{faulty_sets}
use Rattle.adversary_script.specs.ScriptPart.{IsTolerated}
use Rattle.layer_runner.specs.Laws.{MachinesSettle, ReadersFit}
use Rattle.player.specs.ReadOver.{IsShapeOver}

pub machines_settle : MachinesSettle
machines_settle machine sound = record {
  quorum = sound.quorum;
  least = sound.least_modulus;
  deep = λ v state lt is. is.depth ∙ sound.depth v lt;
  shown = λ v state lt is. sound.shown v lt state is;
  next = λ v heard lt. sound.next v lt heard;
  front = record {
    deep = λ v heard lt. (sound.next v lt heard).depth ∙ sound.depth v lt;
    next = λ v heard lt size. sound.further.step v lt heard size;
    shows = λ v state lt. sound.further.shows v lt state;
  };
  settles = sound.settles;
}

pub readers_fit : {Kept : Type 0} (layer : Layer Kept) → ReadersFit layer
readers_fit layer machine shape script fits for whole over = record {
  shape = subst (IsShapeOver machine layer) (sym for.states) fits;
  right = record {
    nodes = for.nodes ∙ fits.nodes;
    states = refl;
    borne = subst (λ n. All (IsTolerated n machine.faults) (faulty_sets script)) fits.nodes
        for.borne;
  };
  whole = whole;
  over = over;
}
