-- Lemmas about the room of a net.
use Rattle.std.proofs.Common.{◌≡◌, ℕ, ◌+◌, ◌<◌, ◌≤◌, Bool, false, List, length, get_or, replicate, Some, None, refl, sym, ◌∙◌, ap}
use Rattle.std.specs.Prelude.{Option, slice_get, slice_index_or, unwrap_or}
use Rattle.std.proofs.lemmas.List.{ext_get_or, length-replicate}
use Rattle.std.proofs.lemmas.Option.{unwrap_or-slice_get}
use Rattle.xw_bits.specs.Bits.{RowOfBits}
use Rattle.xw_words.specs.Dictionary.{Dictionary, IsDictionary, known_words}
use Rattle.xw_grid.specs.declared.lights.Light.{Light}
use Rattle.xw_grid.specs.Light.{no_light}
use Rattle.xw_net.specs.Nets.{bits_at}
use Rattle.xw_net.proofs.Lists.QuietNets.{all_false}
use Rattle.xw_net.specs.Spread.{bits_in}
use Rattle.xw_net.specs.Room.{size_at, no_row, row_at}

pub known_few : (dictionary : Dictionary) (len : ℕ) → IsDictionary dictionary → length (known_words dictionary len) ≤ 1048576
known_few dictionary len is = (is.words len).few

pub size_nowhere : (lights : List Light) (light : ℕ) → slice_get lights light ≡ None → 0 ≡ size_at lights light
size_nowhere lights light none = ap (λ (l : Light). l.size) (sym (ap (λ o. unwrap_or o no_light) none) ∙ unwrap_or-slice_get lights light no_light)

-- two equal ways to read the bits of a row
pub bits_are : (rows : List RowOfBits) (light : ℕ) → bits_in rows light ≡ (row_at rows light).bits
bits_are rows light = by_row (slice_get rows light) ∙ ap (λ (r : RowOfBits). r.bits) (unwrap_or-slice_get rows light no_row) where
  by_row : (found : Option RowOfBits) → bits_at found ≡ (unwrap_or found no_row).bits
  by_row None = refl
  by_row (Some one) = refl

-- a row of clear bits, by its length
pub clear_row : (count : ℕ) (old bits : List Bool) → old ≡ replicate count false → length bits ≡ length old + 64 → ((i : ℕ) → slice_index_or bits i false ≡ slice_index_or old i false) → bits ≡ replicate (count + 64) false
clear_row count old bits was long same = ext_get_or false bits (replicate (count + 64) false) (long ∙ ap (λ (b : List Bool). length b + 64) was ∙ ap (λ n. n + 64) (length-replicate count false) ∙ sym (length-replicate (count + 64) false)) each where
  each : (i : ℕ) → i < length bits → get_or bits i false ≡ get_or (replicate (count + 64) false) i false
  each i below = same i ∙ ap (λ (b : List Bool). get_or b i false) was ∙ all_false count i ∙ sym (all_false (count + 64) i)
