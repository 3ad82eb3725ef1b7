-- Answers of one_kind: a token is a piece, and the bytes of a piece determine its kind.
use Rattle.std.proofs.Common.{◌≡◌}
use Rattle.rev_syntax.specs.declared.token.TokenKind.{TokenKind}
use Rattle.rev_syntax.specs.declared.token.PieceKind.{PieceKind}
use Rattle.rev_syntax.specs.declared.token.PieceKind.TheVariants as piece
use Rattle.rev_syntax.proofs.PieceKinds.{one-kind}
use Rattle.rev_syntax.proofs.laws.one_kind.Goals as goal

token-same : (k l : TokenKind) → ◌≡◌ {A = PieceKind} (piece.Token k) (piece.Token l) → k ≡ l
token-same k l e = cc

pub returns : goal.returns
returns c = λ w k l h i. token-same k l (one-kind (piece.Token k) (piece.Token l) w h i)
