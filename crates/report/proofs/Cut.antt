-- An input that was cut past the limit is reported as all of it would be.
use Rattle.std.proofs.Common.{ℕ, ◌<◌, List, length, take, Option, subst, inl, inr, arith}
use Rattle.std.proofs.lemmas.List.{take_all, length-take}
use Rattle.std.proofs.lemmas.Bool.{cases_lt}
use Rattle.slips.specs.declared.faults.Fault.{Fault}
use Rattle.slips.specs.declared.rows.Values.{Values}
use Rattle.slips.specs.Format.{most_bytes}
use Rattle.slips.specs.Rules as rules
use Rattle.slips.specs.Rules.{Holds}
use Rattle.report.specs.Reports.{Reported}

-- what is too long is so whatever follows
long : (cut input : List ℕ) (vs : List Values) (o : Option Fault) → most_bytes < length cut → most_bytes < length input → Holds cut vs o → Holds input vs o
long cut input vs o h k (rules.whole few p e d) = absurd (omega arith)
long cut input vs o h k (rules.too_long far n d) = rules.too_long k n d
long cut input vs o h k (rules.no_names c few n m d) = absurd (omega arith)
long cut input vs o h k (rules.at_row r f few p e q d) = absurd (omega arith)

holds : (input : List ℕ) (vs : List Values) (o : Option Fault) → Holds (take 65537 input) vs o → Holds input vs o
holds input vs o h =
    elim (cases_lt 65536 (length input)) [
      | inl far ↦ long (take 65537 input) input vs o (omega (arith, length-take 65537 input)) far h
      | inr few ↦ subst (λ (s : List ℕ). Holds s vs o) (take_all 65537 input (omega arith)) h
    ]

pub cut_enough : (input text : List ℕ) → Reported (take 65537 input) text → Reported input text
cut_enough input text t = record {
  rows = t.rows;
  fault = t.fault;
  holds = holds input t.rows t.fault t.holds;
  in_m = t.in_m;
  in_c = t.in_c;
  tried_m = t.tried_m;
  tried_c = t.tried_c;
  lines = t.lines;
}
