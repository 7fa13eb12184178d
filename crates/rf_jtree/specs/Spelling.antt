-- How the separators, operators and keywords that have a name here are spelled (JLS 3.9, 3.11, 3.12).
use Rattle.std.specs.Prelude.{ℕ, List, [], ◌∷◌, codes}
use Rattle.rf_jtree.specs.declared.operators.Op.{Op}
use Rattle.rf_jtree.specs.declared.words.Kw.{Kw}
use Rattle.rf_jtree.specs.declared.operator_names.TheConstants.{LEFT_PAREN, RIGHT_PAREN, LEFT_BRACE, RIGHT_BRACE, LEFT_BRACKET, RIGHT_BRACKET, SEMICOLON, COMMA, DOT, AT, ASSIGN, GREATER, LESS, NOT, COMPLEMENT, QUESTION, COLON, EQUAL, LESS_EQUAL, GREATER_EQUAL, NOT_EQUAL, AND_AND, OR_OR, INCREMENT, DECREMENT, PLUS, MINUS, TIMES, DIVIDE, AND, OR, XOR, REMAINDER, SHIFT_LEFT, SHIFT_RIGHT, SHIFT_RIGHT_UNSIGNED, ASSIGN_PLUS, ASSIGN_MINUS, ASSIGN_TIMES, ASSIGN_DIVIDE, ASSIGN_AND, ASSIGN_OR, ASSIGN_XOR, ASSIGN_REMAINDER, ASSIGN_SHIFT_LEFT, ASSIGN_SHIFT_RIGHT, ASSIGN_SHIFT_RIGHT_UNSIGNED}
use Rattle.rf_jtree.specs.declared.keyword_names.TheConstants.{ABSTRACT, ASSERT, BOOLEAN, BREAK, BYTE, CASE, CATCH, CHAR, CLASS, CONTINUE, DEFAULT, DO, DOUBLE, ELSE, EXTENDS, FINAL, FINALLY, FLOAT, FOR, IF, IMPLEMENTS, IMPORT, INSTANCEOF, INT, INTERFACE, LONG, NATIVE, NEW, PACKAGE, PRIVATE, PROTECTED, PUBLIC, RETURN, SHORT, STATIC, STRICTFP, SUPER, SWITCH, SYNCHRONIZED, THIS, THROW, THROWS, TRANSIENT, TRY, VOID, VOLATILE, WHILE}

-- the texts of the separators and operators, each with its name
unfoldable pub OPERATOR_NAMES : List (List ℕ × Op)
OPERATOR_NAMES =
    (codes "(", LEFT_PAREN) ∷ (codes ")", RIGHT_PAREN) ∷ (codes "{", LEFT_BRACE) ∷ (codes "}", RIGHT_BRACE) ∷
    (codes "[", LEFT_BRACKET) ∷ (codes "]", RIGHT_BRACKET) ∷ (codes ";", SEMICOLON) ∷ (codes ",", COMMA) ∷
    (codes ".", DOT) ∷ (codes "@", AT) ∷ (codes "=", ASSIGN) ∷ (codes ">", GREATER) ∷ (codes "<", LESS) ∷
    (codes "!", NOT) ∷ (codes "~", COMPLEMENT) ∷ (codes "?", QUESTION) ∷ (codes ":", COLON) ∷ (codes "==", EQUAL) ∷
    (codes "<=", LESS_EQUAL) ∷ (codes ">=", GREATER_EQUAL) ∷ (codes "!=", NOT_EQUAL) ∷ (codes "&&", AND_AND) ∷
    (codes "||", OR_OR) ∷ (codes "++", INCREMENT) ∷ (codes "--", DECREMENT) ∷ (codes "+", PLUS) ∷
    (codes "-", MINUS) ∷ (codes "*", TIMES) ∷ (codes "/", DIVIDE) ∷ (codes "&", AND) ∷ (codes "|", OR) ∷
    (codes "^", XOR) ∷ (codes "%", REMAINDER) ∷ (codes "<<", SHIFT_LEFT) ∷ (codes ">>", SHIFT_RIGHT) ∷
    (codes ">>>", SHIFT_RIGHT_UNSIGNED) ∷ (codes "+=", ASSIGN_PLUS) ∷ (codes "-=", ASSIGN_MINUS) ∷
    (codes "*=", ASSIGN_TIMES) ∷ (codes "/=", ASSIGN_DIVIDE) ∷ (codes "&=", ASSIGN_AND) ∷ (codes "|=", ASSIGN_OR) ∷
    (codes "^=", ASSIGN_XOR) ∷ (codes "%=", ASSIGN_REMAINDER) ∷ (codes "<<=", ASSIGN_SHIFT_LEFT) ∷
    (codes ">>=", ASSIGN_SHIFT_RIGHT) ∷ (codes ">>>=", ASSIGN_SHIFT_RIGHT_UNSIGNED) ∷ []

-- the texts of the keywords, each with its name
unfoldable pub KEYWORD_NAMES : List (List ℕ × Kw)
KEYWORD_NAMES =
    (codes "abstract", ABSTRACT) ∷ (codes "assert", ASSERT) ∷ (codes "boolean", BOOLEAN) ∷ (codes "break", BREAK) ∷
    (codes "byte", BYTE) ∷ (codes "case", CASE) ∷ (codes "catch", CATCH) ∷ (codes "char", CHAR) ∷
    (codes "class", CLASS) ∷ (codes "continue", CONTINUE) ∷ (codes "default", DEFAULT) ∷ (codes "do", DO) ∷
    (codes "double", DOUBLE) ∷ (codes "else", ELSE) ∷ (codes "extends", EXTENDS) ∷ (codes "final", FINAL) ∷
    (codes "finally", FINALLY) ∷ (codes "float", FLOAT) ∷ (codes "for", FOR) ∷ (codes "if", IF) ∷
    (codes "implements", IMPLEMENTS) ∷ (codes "import", IMPORT) ∷ (codes "instanceof", INSTANCEOF) ∷
    (codes "int", INT) ∷ (codes "interface", INTERFACE) ∷ (codes "long", LONG) ∷ (codes "native", NATIVE) ∷
    (codes "new", NEW) ∷ (codes "package", PACKAGE) ∷ (codes "private", PRIVATE) ∷ (codes "protected", PROTECTED) ∷
    (codes "public", PUBLIC) ∷ (codes "return", RETURN) ∷ (codes "short", SHORT) ∷ (codes "static", STATIC) ∷
    (codes "strictfp", STRICTFP) ∷ (codes "super", SUPER) ∷ (codes "switch", SWITCH) ∷
    (codes "synchronized", SYNCHRONIZED) ∷ (codes "this", THIS) ∷ (codes "throw", THROW) ∷ (codes "throws", THROWS) ∷
    (codes "transient", TRANSIENT) ∷ (codes "try", TRY) ∷ (codes "void", VOID) ∷ (codes "volatile", VOLATILE) ∷
    (codes "while", WHILE) ∷ []
