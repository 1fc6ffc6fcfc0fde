-- The book of a text, and why there is none.
use Rattle.std.proofs.Common.{◌≡◌, ◌∙◌, sym, subst, ℕ, List}
use Rattle.std.specs.Prelude.{Ok, Err, Result, IfErr, IfOk}
use Rattle.toml.specs.Data.{Members}
use Rattle.tariffs.specs.declared.fault.BookFault.{BookFault}
use Rattle.tariffs.specs.declared.fault.BookFault.TheVariants.{NotToml, Memory}
use Rattle.tariffs.specs.Faults.{Gives}
use Rattle.tariffs.specs.Books.{Book, IsDocument, book_of}
use Rattle.sql_keeper.specs.Books.{IsBookFault, IsBookOf}

pub memory_fault : (text : List ℕ) (f : BookFault) → f ≡ Memory → IsBookFault text f
memory_fault text f is = record {
  document = λ t d memory. absurd (memory is);
  other = λ none memory. absurd (memory is);
}

module _ (text bytes : List ℕ) (is : bytes ≡ text) where
  pub fault_told : (r : Result Book BookFault)
      → ((t : Members) → IsDocument bytes t → Gives (λ (b : Book). b) r (book_of t))
      → (((t : Members) → IsDocument bytes t → ⊥) →
      Gives {Y = Book} (λ (b : Book). b) r (Err NotToml))
      → IfErr r (IsBookFault text)
  fault_told (Ok b) document other = tt
  fault_told (Err e) document other = record {
    document = λ t d. document t (subst (λ x. IsDocument x t) (sym is) d);
    other = λ none memory.
        let same = other (λ t d. none t (subst (λ x. IsDocument x t) is d)) memory in
        let it : e ≡ NotToml = cc in it;
  }

  pub book_told : (r : Result Book BookFault)
      → IfOk r (λ b. (t : Members) × IsDocument bytes t × (book_of t ≡ Ok b))
      → IfOk r (IsBookOf text)
  book_told (Ok b) read = (read.0, subst (λ x. IsDocument x read.0) is read.1, read.2)
  book_told (Err e) read = tt

  pub same_told : (r : Result Book BookFault)
      → ((t : Members) → IsDocument bytes t → Gives (λ (b : Book). b) r (book_of t))
      → (b : Book) → IsBookOf text b → IfOk r (λ x. x ≡ b)
  same_told (Ok x) document b read =
      let first : book_of read.0 ≡ Ok x =
      document read.0 (subst (λ y. IsDocument y read.0) (sym is) read.1) in
      let second : book_of read.0 ≡ Ok b = read.2 in
      let both = sym first ∙ second in
      let it : x ≡ b = cc in it
  same_told (Err e) document b read = tt
