-- The file's parts as the code holds them.
use Rattle.std.specs.Prelude.{◌≡◌, ℕ, ◌≤◌, unsigned_abs, None, Some, List, map}
use Rattle.std.specs.List.{All}
use Rattle.std.specs.Fmt.{signed_decimal}
use Rattle.serde_json.specs.Data.{Data}
use Rattle.fusion_ring.specs.declared.Triple.{Triple}
use Rattle.symbol_index.specs.declared.Symbol.{Symbol}
use Rattle.symbol_index.specs.declared.Symbol.TheVariants.{Fsym, Rsym}
use Rattle.sparse_poly.specs.Contributions.{max_coeff}
use Rattle.ring_file.specs.Problems.{IsGauge}
use Rattle.ring_file.specs.Reading.{HasNumber, IsFirstWithout, NamesUnknown, in_file}
use Rattle.fusion_ring.specs.Fusion.{Fusion}
use Rattle.symbol_index.specs.declared.GaugeEntry.{GaugeEntry}
use Rattle.ring_file.specs.Files.{File, first_failing, product_checks, entry_checks, triple_of, entry_of}
use Rattle.ring_file.specs.declared.symbols.Named.{Named}
use Rattle.ring_file.specs.declared.symbols.Named.TheVariants.{F, R}
use Rattle.ring_file.specs.declared.symbols.NamedEntry.{NamedEntry}
use Rattle.ring_file.specs.declared.file.Outline.{Outline}
use Rattle.ring_file.specs.declared.gauge.ValuedEntry.{ValuedEntry}
use Rattle.ring_file.specs.declared.problem.ProblemFault.{ProblemFault}
use Rattle.ring_file.specs.declared.problem.ProblemFault.TheVariants.{NotJson, Shape, Ring, GaugeNumber, GaugeSymbol, OutOfMemory}

-- the symbol of these labels, whatever their size
abbrev pub named_symbol : Named → Symbol
named_symbol (F a b c d e f) = Fsym a b c d e f
named_symbol (R a b c) = Rsym a b c

abbrev pub written_entry : NamedEntry → Symbol × List ℕ
written_entry e = (named_symbol e.symbol, e.value.now)

-- each item is a product, and these are they
pub record AreProducts (ds : List Data) (products : List Triple) : Type 0 where
  pub form : first_failing (product_checks 0 ds) ≡ None
  pub items : map triple_of ds ≡ map Some products

-- each item is a gauge entry, and these are they
pub record AreEntries (ds : List Data) (entries : List NamedEntry) : Type 0 where
  pub form : first_failing (entry_checks 0 ds) ≡ None
  pub items : map entry_of ds ≡ map Some (map written_entry entries)

abbrev pub file_of : Outline → File
file_of o = record { labels = o.labels; products = o.products.items; gauge = map written_entry o.gauge.items }

-- the entry as the file writes it
abbrev pub valued_entry : ValuedEntry → Symbol × List ℕ
valued_entry e = (named_symbol e.symbol, signed_decimal e.value)

-- these are the entries of the file, each with its value in range
pub record AreValued (es : List (Symbol × List ℕ)) (entries : List ValuedEntry) : Type 0 where
  pub same : es ≡ map valued_entry entries
  pub in_range : All (λ e. unsigned_abs e.value ≤ max_coeff) entries

abbrev pub IsNumberFault : List (Symbol × List ℕ) → ProblemFault → Type 0
IsNumberFault es NotJson = ⊥
IsNumberFault es (Shape place) = ⊥
IsNumberFault es (Ring fault) = ⊥
IsNumberFault es (GaugeNumber entry) = IsFirstWithout HasNumber es entry
IsNumberFault es (GaugeSymbol entry) = ⊥
IsNumberFault es OutOfMemory = Unit {0}

-- these are the entries of the file, each of an unknown of the ring
pub record AreGauge (r : Fusion) (es : List (Symbol × List ℕ)) (gauge : List GaugeEntry) : Type 0 where
  pub same : es ≡ map in_file gauge
  pub valid : IsGauge r gauge

abbrev pub IsSymbolFault : Fusion → List (Symbol × List ℕ) → ProblemFault → Type 0
IsSymbolFault r es NotJson = ⊥
IsSymbolFault r es (Shape place) = ⊥
IsSymbolFault r es (Ring fault) = ⊥
IsSymbolFault r es (GaugeNumber entry) = ⊥
IsSymbolFault r es (GaugeSymbol entry) = IsFirstWithout (NamesUnknown r) es entry
IsSymbolFault r es OutOfMemory = Unit {0}
