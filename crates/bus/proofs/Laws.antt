-- All laws of judging, filling and writing.
use Rattle.bus.specs.Laws.{Laws}
use Rattle.bus.proofs.Cutting.{cutting}
use Rattle.bus.proofs.Congruence.{congruence}
use Rattle.bus.proofs.Stability.{stability}
use Rattle.bus.proofs.Distance.{distance}

pub laws : Laws
laws = record { cutting = cutting; congruence = congruence; stability = stability; distance = distance }
