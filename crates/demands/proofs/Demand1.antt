-- Demand 1 of the library: both calls of a conversion, and headers (Conversions), its Canadian mode (Canadian), and its calls on a board (Demand1Boards).
use Rattle.demands.specs.Calls.{library}
use Rattle.demands.specs.Demands.{Demand1}
use Rattle.demands.proofs.Conversions.{header-numbered, header-field, header_refused, text-numbered, text-field, text-refused, read-numbered, read-refused, write-numbered, write-refused}
use Rattle.demands.proofs.Canadian.{canadian-numbered, canadian-field, canadian-refused}
use Rattle.demands.proofs.Demand1Boards.{offer-numbered, offer-field, offer-refused, hand-out-numbered, hand-out-refused, list-numbered, list-refused}

pub demand-1 : Demand1 library
demand-1 = record {
  header-numbered = header-numbered;
  header-field = header-field;
  header_refused = header_refused;
  text-numbered = text-numbered;
  text-field = text-field;
  text-refused = text-refused;
  canadian-numbered = canadian-numbered;
  canadian-field = canadian-field;
  canadian-refused = canadian-refused;
  offer-numbered = offer-numbered;
  offer-field = offer-field;
  offer-refused = offer-refused;
  hand-out-numbered = hand-out-numbered;
  hand-out-refused = hand-out-refused;
  list-numbered = list-numbered;
  list-refused = list-refused;
  read-numbered = read-numbered;
  read-refused = read-refused;
  write-numbered = write-numbered;
  write-refused = write-refused;
}
