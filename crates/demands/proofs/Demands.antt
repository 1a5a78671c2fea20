-- The library's calls meet the three demands, and so does whatever answers as they do.
use Rattle.demands.specs.Calls.{library}
use Rattle.demands.specs.Demands.{Demands}
use Rattle.demands.specs.StandIns.{careful}
use Rattle.demands.proofs.Demand1.{demand-1}
use Rattle.demands.proofs.Demand2.{demand-2}
use Rattle.demands.proofs.Demand3.{demand-3}
use Rattle.demands.proofs.StandIns.{careful-meets}

pub demands : Demands library
demands = record { first = demand-1; second = demand-2; third = demand-3 }

pub careful-demands : Demands careful
careful-demands = careful-meets demands
