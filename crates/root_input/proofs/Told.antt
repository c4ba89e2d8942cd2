-- What told bytes say of how a source was read.
use Rattle.std.specs.Prelude.{◌≡◌, ◌≢◌, ◌<◌, ◌+◌, ◌++◌, ℕ, List, Option, None, Some, length, refl}
use Rattle.std.proofs.Common.{sym, ◌∙◌, ap, subst, append-nil, length-append, arith}
use Rattle.std.specs.Io.KnownBytes.{Consumes, IsAtEnd}
use Rattle.braid_io.specs.Causes.{TookMore}
use Rattle.braid_io.specs.declared.whole.ReadStop.{ReadStop}
use Rattle.braid_io.specs.declared.whole.ReadStop.TheVariants.{Fault, TooLong, OutOfMemory}
use Rattle.root_input.specs.Streams.{Stream, Tells, TellsAll, ReadsAll, IsReadStop}

-- the bytes that were read are those that were told
read_all : (after : Option (List ℕ)) (bytes all : List ℕ) → Consumes (Some all) after bytes → IsAtEnd after → bytes ≡ all
read_all None bytes all taken ended = absurd taken
read_all (Some rest) bytes all taken ended = sym (taken ∙ ap (λ l. bytes ++ l) ended ∙ append-nil bytes)

pub told_all : (limit : ℕ) (source : Stream) (bytes all : List ℕ) → Tells source bytes → ReadsAll limit source all → all ≡ bytes
told_all limit source bytes all tells reads = read_all source.after all bytes (subst (λ (o : Option (List ℕ)). Consumes o source.after all) tells reads.taken) reads.ended

-- more bytes were told than the limit
read_more : (limit : ℕ) (after : Option (List ℕ)) (bytes all : List ℕ) → Consumes (Some all) after bytes → length bytes ≡ limit + 1 → limit < length all
read_more limit None bytes all taken long = absurd taken
read_more limit (Some rest) bytes all taken long = let e = ap length taken ∙ length-append bytes rest in omega (arith, e, long)

pub told_more : (limit : ℕ) (source : Stream) (bytes : List ℕ) → Tells source bytes → TookMore source.before source.after limit → limit < length bytes
told_more limit source bytes tells more = read_more limit source.after more.0 bytes (subst (λ (o : Option (List ℕ)). Consumes o source.after more.0) tells more.1) more.2

-- there is no other cause
pub told_long : (limit : ℕ) (source : Stream) (bytes : List ℕ) (stop : ReadStop) → TellsAll source bytes → IsReadStop limit source stop → stop ≢ OutOfMemory → stop ≡ TooLong
told_long limit source bytes Fault tells is apart = absurd (tells.quiet is.0)
told_long limit source bytes TooLong tells is apart = refl
told_long limit source bytes OutOfMemory tells is apart = absurd (apart refl)
