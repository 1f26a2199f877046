-- The headers of a file that was written.
use Rattle.std.proofs.Common.{◌≡◌, ℕ, ◌+◌, ◌*◌, ◌/◌, ◌%◌, ◌^◌, ◌<◌, List, [], ◌∷◌, length, refl, arith}
use Rattle.std.proofs.lemmas.Nat.{from_le_bytes-to_le_bytes_4, from_le_bytes-to_le_bytes_8}
use Rattle.elf_image.specs.Fields.{number_at}
use Rattle.rv_asm.specs.ElfFile.{HasHeaders, file_bytes}

word_of_bytes : (n : ℕ) → n < 2 ^ 32 →
    n % 256 + 256 * (n / 256 % 256 + 256 * (n / 65536 % 256 + 256 * (n / 16777216 % 256 + 256 * 0))) ≡ n
word_of_bytes n fits = omega (arith, from_le_bytes-to_le_bytes_4 n fits)

xword_of_bytes : (n : ℕ) → n < 2 ^ 64 →
    n % 256
    + 256 * (n / 256 % 256
    + 256 * (n / 65536 % 256
    + 256 * (n / 16777216 % 256
    + 256 * (n / 4294967296 % 256
    + 256 * (n / 1099511627776 % 256
    + 256 * (n / 281474976710656 % 256
    + 256 * (n / 72057594037927936 % 256 + 256 * 0)))))))
    ≡ n
xword_of_bytes n fits = omega (arith, from_le_bytes-to_le_bytes_8 n fits)

pub has_headers : (code : List ℕ) (at flags : ℕ) → length code < 2 ^ 64 → at < 2 ^ 64 → flags < 2 ^ 32 →
    HasHeaders (file_bytes code at flags) code at flags
unfolding number_at
has_headers code at flags size_fits at_fits flags_fit = record {
  kind = refl;
  machine = refl;
  entry = xword_of_bytes at at_fits;
  headers_at = refl;
  flagged = word_of_bytes flags flags_fit;
  header_size = refl;
  header_count = refl;
  headers =
      λ i.
      record {
        kind = 1;
        flags = 5;
        offset = 120;
        address = xword_of_bytes at at_fits i;
        file_size = xword_of_bytes (length code) size_fits i;
        memory_size = xword_of_bytes (length code) size_fits i;
      } ∷ [];
  rest = refl;
}
