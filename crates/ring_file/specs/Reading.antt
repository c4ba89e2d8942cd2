-- Which problem some bytes state, and why they state none.
use Rattle.std.specs.Prelude.{◌≡◌, ◌≢◌, ℕ, true, ℤ, Some, List, ◌∷◌, ◌++◌, map, length, IsUtf8}
use Rattle.std.specs.List.{All}
use Rattle.std.specs.Fmt.{signed_decimal}
use Rattle.serde_json.specs.Data.{Data}
use Rattle.serde_json.specs.Read.{read}
use Rattle.decimal_text.specs.Numerals.{IsSignedText}
use Rattle.fusion_ring.specs.Fusion.{Fusion}
use Rattle.fusion_ring.specs.Faults.{IsRingOf, IsRingFault}
use Rattle.fusion_ring.specs.declared.RingFault.TheVariants.{OutOfMemory as ring_memory}
use Rattle.symbol_index.specs.declared.Symbol.{Symbol}
use Rattle.symbol_index.specs.declared.GaugeEntry.{GaugeEntry}
use Rattle.sparse_poly.specs.Contributions.{max_coeff}
use Rattle.ring_file.specs.Problems.{Stated, is_gauge_symbol, IsGauge}
use Rattle.ring_file.specs.Files.{File, IsFile, checks, first_failing}
use Rattle.ring_file.specs.declared.problem.ProblemFault.{ProblemFault}
use Rattle.ring_file.specs.declared.problem.ProblemFault.TheVariants.{NotJson, Shape, Ring, GaugeNumber, GaugeSymbol, OutOfMemory}

-- the bytes are the JSON text of this value
abbrev pub IsReading : List ℕ → Data → Type 0
IsReading bytes d = IsUtf8 bytes × (read bytes ≡ Some d)

-- the text is the decimal text of the number, which is in range: it has no leading zeros, and is not `-0`
abbrev pub IsNumberText : List ℕ → ℤ → Type 0
IsNumberText text v = IsSignedText max_coeff text v

abbrev pub HasNumber : Symbol × List ℕ → Type 0
HasNumber e = (v : ℤ) × IsNumberText e.1 v

-- P does not hold of the item with the number i, and holds of all before it
pub record IsFirstWithout {T : Type 0} (P : T → Type 0) (xs : List T) (i : ℕ) : Type 0 where
  pub front : List T
  pub at : T
  pub rest : List T
  pub split : xs ≡ front ++ at ∷ rest
  pub place : length front ≡ i
  pub holds : All P front
  pub fails : ¬ P at

-- the entry's symbol is an unknown F or R of the ring
abbrev pub NamesUnknown : Fusion → Symbol × List ℕ → Type 0
NamesUnknown r e = is_gauge_symbol r e.0 ≡ true

-- the entry as a file writes it
abbrev pub in_file : GaugeEntry → Symbol × List ℕ
in_file e = (e.symbol, signed_decimal e.value)

-- the file states this ring and these gauge entries
pub record IsProblemOfFile (file : File) (p : Stated) : Type 0 where
  pub ring : IsRingOf file.labels file.products p.ring
  pub gauge : file.gauge ≡ map in_file p.gauge
  pub valid : IsGauge p.ring p.gauge

-- the file states no problem, though it has its form: it states no ring, or an entry has no number, or one has no unknown of the ring
abbrev pub IsFileFault : File → ProblemFault → Type 0
IsFileFault file NotJson = ⊥
IsFileFault file (Shape place) = ⊥
IsFileFault file (Ring fault) = IsRingFault file.labels file.products fault × (fault ≢ ring_memory)
IsFileFault file (GaugeNumber entry) = (r : Fusion) × IsRingOf file.labels file.products r × IsFirstWithout HasNumber file.gauge entry
IsFileFault file (GaugeSymbol entry) = (r : Fusion) × IsRingOf file.labels file.products r × All HasNumber file.gauge × IsFirstWithout (NamesUnknown r) file.gauge entry
IsFileFault file OutOfMemory = Unit {0}

-- the bytes state this problem
pub record IsProblemOf (bytes : List ℕ) (p : Stated) : Type 0 where
  pub json : Data
  pub reading : IsReading bytes json
  pub file : File
  pub is_file : IsFile json file
  pub problem : IsProblemOfFile file p

-- the bytes are the text of a file that states this fault
pub record HasFileFault (bytes : List ℕ) (fault : ProblemFault) : Type 0 where
  pub json : Data
  pub reading : IsReading bytes json
  pub file : File
  pub is_file : IsFile json file
  pub is_fault : IsFileFault file fault

-- the bytes state no problem: they are no JSON text, or a place has not its form, or what they state is no problem
abbrev pub IsProblemFault : List ℕ → ProblemFault → Type 0
IsProblemFault bytes NotJson = (d : Data) → ¬ IsReading bytes d
IsProblemFault bytes (Shape place) = (d : Data) × IsReading bytes d × (first_failing (checks d) ≡ Some place)
IsProblemFault bytes (Ring fault) = HasFileFault bytes (Ring fault)
IsProblemFault bytes (GaugeNumber entry) = HasFileFault bytes (GaugeNumber entry)
IsProblemFault bytes (GaugeSymbol entry) = HasFileFault bytes (GaugeSymbol entry)
IsProblemFault bytes OutOfMemory = Unit {0}
