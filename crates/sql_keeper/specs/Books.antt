-- The book of a text, and why there is none.
-- Source: profile.
use Rattle.std.specs.Prelude.{◌≡◌, Ok, Err}
use Rattle.shelves.specs.Words.{BookText}
use Rattle.toml.specs.Data.{Members}
use Rattle.tariffs.specs.declared.fault.BookFault.{BookFault}
use Rattle.tariffs.specs.declared.fault.BookFault.TheVariants.{NotToml, Memory}
use Rattle.tariffs.specs.Books.{Book, IsDocument, book_of}

-- the text is a document, and this is its book
abbrev pub IsBookOf : BookText → Book → Type 0
IsBookOf text b = (t : Members) × IsDocument text t × (book_of t ≡ Ok b)

abbrev pub IsBookText : BookText → Type 0
IsBookText text = (b : Book) × IsBookOf text b

-- memory was refused, or this is the first fault of the text
pub record IsBookFault (text : BookText) (fault : BookFault) : Type 0 where
  pub document : (t : Members) → IsDocument text t → ¬ (fault ≡ Memory) → book_of t ≡ Err fault
  pub other : ((t : Members) → IsDocument text t → ⊥) → ¬ (fault ≡ Memory) → fault ≡ NotToml
