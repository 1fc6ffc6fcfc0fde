-- The head of an answer, as it is written piece by piece into an empty text.
use Rattle.std.proofs.Common.{◌≡◌, ◌∙◌, ℕ, Bool, List, [], ◌++◌, codes, length}
use Rattle.std.proofs.Common.{ap}
use Rattle.std.proofs.lemmas.List.{append_assoc}
use Rattle.std.specs.Fmt.{decimal}
use Rattle.http_messages.specs.Statuses.{ok}
use Rattle.http_messages.specs.Texts.{phrase, closing_line, response}
use Rattle.http_messages.specs.MessageParts.{type_and_length, text_head}

pub response_written : (status code : ℕ) (said closing : List ℕ) (closes : Bool) (body : List ℕ)
    (old new : List ℕ) → code ≡ status → said ≡ phrase status → closing ≡ closing_line closes →
    old ≡ [] →
    new ≡ old ++ (codes "HTTP/1.1 " ++ (decimal code ++ (codes " " ++ (said ++ (type_and_length
    ++ (decimal (length body) ++ (codes "\r\n" ++ (closing ++ (codes "\r\n" ++ body))))))))) →
    new ≡ response status closes body
response_written status code said closing closes body old new number text line none h = h
    ∙ (λ i. none i ++ (codes "HTTP/1.1 " ++ (decimal (number i) ++ (codes " " ++ (text i
    ++ (type_and_length ++ (decimal (length body) ++ (codes "\r\n" ++ (line i
    ++ (codes "\r\n" ++ body))))))))))

pub head_written : (status code : ℕ) (said closing : List ℕ) (closes : Bool) (n : ℕ)
    (old new : List ℕ) → code ≡ status → said ≡ phrase status → closing ≡ closing_line closes →
    old ≡ [] →
    new ≡ old ++ (codes "HTTP/1.1 " ++ (decimal code ++ (codes " " ++ (said
    ++ (codes "\r\nContent-Type: text/plain\r\nContent-Length: "
    ++ (decimal n ++ (codes "\r\n" ++ (closing ++ codes "\r\n")))))))) →
    new ≡ text_head status closes n
head_written status code said closing closes n old new number text line none h = h
    ∙ (λ i. none i ++ (codes "HTTP/1.1 " ++ (decimal (number i) ++ (codes " " ++ (text i
    ++ (codes "\r\nContent-Type: text/plain\r\nContent-Length: "
    ++ (decimal n ++ (codes "\r\n" ++ (line i ++ codes "\r\n")))))))))

-- pieces one after another, as two pairs of them
two_pairs : (a b c d t l r m n body : List ℕ) →
    ((a ++ (b ++ (c ++ (d ++ t)))) ++ l) ++ ((r ++ (m ++ n)) ++ body) ≡
    a ++ (b ++ (c ++ (d ++ (t ++ (l ++ (r ++ (m ++ (n ++ body))))))))
two_pairs a b c d t l r m n body =
    let rest : List ℕ = l ++ ((r ++ (m ++ n)) ++ body) in
    append_assoc (a ++ (b ++ (c ++ (d ++ t)))) l ((r ++ (m ++ n)) ++ body)
    ∙ append_assoc a (b ++ (c ++ (d ++ t))) rest
    ∙ ap (λ (x : List ℕ). a ++ x) (append_assoc b (c ++ (d ++ t)) rest
    ∙ ap (λ (x : List ℕ). b ++ x) (append_assoc c (d ++ t) rest
    ∙ ap (λ (x : List ℕ). c ++ x) (append_assoc d t rest
    ∙ ap (λ (x : List ℕ). d ++ (t ++ (l ++ x)))
    (append_assoc r (m ++ n) body ∙ ap (λ (x : List ℕ). r ++ x) (append_assoc m n body)))))

-- the answer 200 in two pairs of pieces
pub json_written : (first length_told rest body : List ℕ) (closes : Bool) →
    first ≡ codes "HTTP/1.1 " ++ (decimal ok ++ (codes " " ++ (phrase ok ++ type_and_length))) →
    length_told ≡ decimal (length body) →
    rest ≡ codes "\r\n" ++ (closing_line closes ++ codes "\r\n") →
    (first ++ length_told) ++ (rest ++ body) ≡ response ok closes body
json_written first length_told rest body closes head number line =
    (λ i. (head i ++ number i) ++ (line i ++ body))
    ∙ two_pairs (codes "HTTP/1.1 ") (decimal ok) (codes " ") (phrase ok) type_and_length
    (decimal (length body)) (codes "\r\n") (closing_line closes) (codes "\r\n") body
